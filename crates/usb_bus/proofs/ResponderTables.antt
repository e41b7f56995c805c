-- A table and a responder beside it are a table.
use Rattle.std.proofs.Common.{◌≡◌, ℕ, ◌<◌, ◌==◌, ◌&&◌, ◌%◌, ◌/◌, not, Bool, true, false, take, refl, arith, sym, subst, ◌∙◌, length-take}
use Rattle.std.specs.Prelude.{nat_le}
use Rattle.std.proofs.lemmas.Bool.Decides.{nat_tests}
use Rattle.usb_fields.specs.declared.setup.Setup.{Setup}
use Rattle.usb_fields.specs.declared.setup.Class.TheVariants as classes
use Rattle.usb_fields.specs.Setup.{class_of, direction_of}
use Rattle.usb_fields.specs.declared.setup.Direction.{Direction}
use Rattle.usb_fields.specs.declared.setup.Direction.TheVariants as directions
use Rattle.usb_device.specs.declared.state.State.{State}
use Rattle.usb_device.specs.Requests.{Outcome, Bytes, Done, Refused}
use Rattle.usb_device.specs.Requests as outcomes
use Rattle.usb_device.specs.Step.{is_set_address}
use Rattle.usb_device.specs.Beside.{Response, Gives, Does, Takes, Declines, asks_for_bytes, beside, brings_bytes, is_in, is_open, is_open_to, is_other_descriptor, kept_open, kept_to, otherwise, overflows}
use Rattle.usb_bus.specs.Beside.{IsTable}
use Rattle.usb_bus.specs.Laws.{RespondersKeepTables}
use Rattle.usb_host.proofs.SpareLemmas.{left_of, right_of}
use Rattle.usb_bus.proofs.TableLemmas.{Kept, when_kept}

-- SET_ADDRESS is open to no responder
set_address_closed : (q : Setup) → is_open q ≡ true → is_set_address q ≡ false
set_address_closed q may = by_type (q.request_type % 128 == 0) refl
  where
    by_request : (c : Bool) → (q.request == 5) ≡ c → class_of q.request_type ≡ classes.Standard → (q.request == 5) ≡ false
    by_request false e standard = e
    by_request true e standard =
        (let six : (q.request == 6) ≡ false = grind (arith, nat_tests) in
        let here : is_other_descriptor q ≡ true = subst (λ c. is_open_to c q ≡ true) standard may in
        absurd (let z = sym (left_of (q.request == 6) _ (left_of ((q.request == 6) && not (brings_bytes q)) _ here)) ∙ six in cc))

    by_type : (c : Bool) → (q.request_type % 128 == 0) ≡ c → is_set_address q ≡ false
    by_type false e = rw e refl
    by_type true e =
        (let zero : q.request_type % 128 ≡ 0 = grind (arith, nat_tests) in
        let none : q.request_type / 32 % 4 ≡ 0 = omega arith in
        let kind : (q.request_type / 32 % 4 == 0) ≡ true = rw none refl in
        let standard : class_of q.request_type ≡ classes.Standard = rw kind refl in
        rw (e, by_request (q.request == 5) refl standard) refl)

-- a request that asks for bytes has a data stage, to the host
some_asked : (q : Setup) → asks_for_bytes q ≡ true → 0 < q.length
some_asked q e =
    let some : not (q.length == 0) ≡ true = left_of (not (q.length == 0)) (is_in (direction_of q.request_type)) e in
    grind (arith, nat_tests)

goes_in : (d : Direction) → is_in d ≡ true → d ≡ directions.In
goes_in directions.In e = refl
goes_in directions.Out e = cc

in_asked : (q : Setup) → asks_for_bytes q ≡ true → direction_of q.request_type ≡ directions.In
in_asked q e = goes_in (direction_of q.request_type) (right_of (not (q.length == 0)) (is_in (direction_of q.request_type)) e)

-- and one that brings bytes has one to the device
some_brought : (q : Setup) → brings_bytes q ≡ true → 0 < q.length
some_brought q e =
    let some : not (q.length == 0) ≡ true = left_of (not (q.length == 0)) (not (is_in (direction_of q.request_type))) e in
    grind (arith, nat_tests)

goes_out : (d : Direction) → not (is_in d) ≡ true → d ≡ directions.Out
goes_out directions.In e = cc
goes_out directions.Out e = refl

out_brought : (q : Setup) → brings_bytes q ≡ true → direction_of q.request_type ≡ directions.Out
out_brought q e = goes_out (direction_of q.request_type) (right_of (not (q.length == 0)) (not (is_in (direction_of q.request_type))) e)

kept_open_kept : (room : ℕ) (s : State) (q : Setup) (r : Response) → is_open q ≡ true → Kept s q (kept_open room s q r)
kept_open_kept room s q (Gives b) may =
    when_kept s q (asks_for_bytes q && not (overflows room q b)) (Bytes (take q.length b))
    (λ e. (let asked = left_of (asks_for_bytes q) (not (overflows room q b)) e in
    (some_asked q asked, in_asked q asked, simp length-take (omega arith))))
kept_open_kept room s q Does may =
    when_kept s q (q.length == 0) (Done s)
    (λ e. (grind (arith, nat_tests), (λ i. refl), (λ i. absurd (let z = sym i ∙ set_address_closed q may in cc))))
kept_open_kept room s q (Takes judge) may =
    when_kept s q (brings_bytes q && nat_le q.length room) (outcomes.Takes judge)
    (λ e. (let brings = left_of (brings_bytes q) (nat_le q.length room) e in (some_brought q brings, out_brought q brings)))
kept_open_kept room s q Declines may = tt

kept_to_kept : (room : ℕ) (s : State) (q : Setup) (r : Response) → Kept s q (kept_to room s q r)
kept_to_kept room s q r = when_kept s q (is_open q) (kept_open room s q r) (λ may. kept_open_kept room s q r may)

otherwise_kept : (room : ℕ) (s : State) (q : Setup) (a : Outcome) (r : Response) → Kept s q a → Kept s q (otherwise a (kept_to room s q r))
otherwise_kept room s q (Bytes b) r x = x
otherwise_kept room s q (Done t) r x = x
otherwise_kept room s q Refused r x = kept_to_kept room s q r
otherwise_kept room s q (outcomes.Takes judge) r x = x

module _ (table : State → Setup → Outcome) (is : IsTable table) (s : State) (q : Setup) where
  kept_by : (o : Outcome) → table s q ≡ o → Kept s q o
  kept_by (Bytes b) e = (let a = (is.answering s q).bytes b e in (a.0, a.1, is.fits s q b e))
  kept_by (Done t) e = ((is.answering s q).done t e, (λ i. (is.answering s q).stays t e i), (λ i. is.goes s q t e i))
  kept_by Refused e = tt
  kept_by (outcomes.Takes judge) e = (is.answering s q).takes judge e

both_kept : (room : ℕ) (table : State → Setup → Outcome) (respond : State → Setup → Response) → IsTable table → (s : State) (q : Setup) → Kept s q (beside room table respond s q)
both_kept room table respond is s q = otherwise_kept room s q (table s q) (respond s q) (kept_by table is s q (table s q) refl)

pub beside_kept : RespondersKeepTables
beside_kept room table respond is =
    let kept : (s : State) (q : Setup) (o : Outcome) → beside room table respond s q ≡ o → Kept s q o =
    λ s q o e. subst (λ a. Kept s q a) e (both_kept room table respond is s q) in
    record {
      answering = λ s q. record {
        bytes = λ b e. (let k = kept s q (Bytes b) e in (k.0, k.1));
        takes = λ judge e. kept s q (outcomes.Takes judge) e;
        done = λ t e. (kept s q (Done t) e).0;
        stays = λ t e i. (kept s q (Done t) e).1 i;
      };
      fits = λ s q b e. (kept s q (Bytes b) e).2;
      goes = λ s q t e i. (kept s q (Done t) e).2 i;
    }
