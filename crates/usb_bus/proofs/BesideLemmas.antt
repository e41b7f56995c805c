-- A device whose owner answers beside its table serves the script as its own table does.
use Rattle.std.proofs.Common.{◌≡◌, ℕ, suc, ◌==◌, ◌&&◌, not, Bool, true, false, List, [], ◌∷◌, take, Option, Some, None, ◌⊎◌, inl, inr, refl, ap, sym, ◌∙◌, subst}
use Rattle.std.specs.Prelude.{nat_le}
use Rattle.usb_fields.specs.Bytes.{AreBytes}
use Rattle.usb_fields.specs.declared.setup.Setup.{Setup as SetupPacket}
use Rattle.usb_host.specs.declared.choice.Terms.{Terms}
use Rattle.usb_set.specs.declared.tree.SetKind.{SetKind}
use Rattle.usb_set.specs.declared.tree.SetKind.TheVariants as kinds
use Rattle.usb_set.specs.declared.tree.Configuration.{Configuration}
use Rattle.usb_file_data.specs.declared.file.DescriptorFile.{DescriptorFile}
use Rattle.usb_file_data.specs.declared.file.Other.{Other}
use Rattle.usb_file_data.specs.declared.file.Strings.{Strings}
use Rattle.usb_file_data.specs.File.{named_indices}
use Rattle.usb_host.specs.declared.reply.Reply.TheVariants as replied
use Rattle.usb_device.specs.declared.state.State.{State}
use Rattle.usb_device.specs.Requests.{Outcome, Bytes, Done, Refused, answer, when}
use Rattle.usb_device.specs.Requests as outcomes
use Rattle.usb_device.specs.Step.{carried_out}
use Rattle.usb_bus.specs.Attempt.{reply_to}
use Rattle.usb_host.specs.Read.{may_have_second}
use Rattle.usb_device.specs.Beside.{Response, Gives, Does, Takes, Declines, asks_for_bytes, beside, brings_bytes, is_open, kept_open, kept_to, otherwise, overflows}
use Rattle.usb_bus.specs.Beside.{IsTable, HasBytes, IsBeside, IsOfBytes}
use Rattle.usb_bus.proofs.ByteLemmas.{when_fits}
use Rattle.usb_bus.specs.inside.Following.{IsServed, Serves}
use Rattle.usb_bus.specs.inside.Script.{Exchange, set_script, text_script, string_script, other_script, last_script, named_script, second_script, script}
use Rattle.usb_fields.proofs.ByteParts.{bytes_front}

-- what the script sees refused is open to no owner
abbrev pub AreClosed : List Exchange → Type 0
AreClosed [] = Unit {0}
AreClosed (x ∷ xs) = (x.reply ≡ replied.Refused → is_open x.request ≡ false) × AreClosed xs

module _ (own table : State → SetupPacket → Outcome) (owned : IsBeside own table) (n : ℕ) (last : State) where
  alike : (s : State) (x : Exchange) → IsServed own n s x → (x.reply ≡ replied.Refused → is_open x.request ≡ false) → table s x.request ≡ own s x.request
  alike s x served closed =
      elim (owned.same s x.request) [
        | inl e ↦ e
        | inr (refused, may) ↦
            let said : x.reply ≡ replied.Refused = sym served.reply ∙ ap (reply_to []) refused in
            absurd (let z = sym may ∙ closed said in cc)
      ]

  pub serves_beside : (xs : List Exchange) (s : State) → Serves own n last s xs → AreClosed xs → Serves table n last s xs
  serves_beside [] s d c = d
  serves_beside (x ∷ xs) s (served, moves, rest) (closed, more) =
      let e = alike s x served closed in (
        record { address = served.address; reply = ap (reply_to []) e ∙ served.reply; is_cut = λ b t. served.is_cut b (sym e ∙ t); sizes = λ judge t. served.sizes judge (sym e ∙ t) },
        moves,
        subst (λ t. Serves table n last t xs) (ap (λ o. carried_out s o) (sym e)) (serves_beside xs (carried_out s (own s x.request)) rest more),
      )

module _ (address packet : ℕ) where
  sets_closed : (kind : SetKind) (i : ℕ) (cs : List Configuration) (more : List Exchange) → AreClosed more → AreClosed (set_script address packet kind i cs more)
  sets_closed kind i [] more c = c
  sets_closed kind i (x ∷ cs) more c = ((λ e. absurd (cc)), ((λ e. absurd (cc)), sets_closed kind (suc i) cs more c))

  texts_closed : (languages named : List ℕ) (k : ℕ) (ts : List (List ℕ)) (more : List Exchange) → AreClosed more → AreClosed (text_script address packet languages named k ts more)
  texts_closed languages named k [] more c = c
  texts_closed languages named k (t ∷ ts) more c = ((λ e. absurd (cc)), texts_closed languages named (suc k) ts more c)

  strings_closed : (o : Option Strings) (named : List ℕ) (more : List Exchange) → AreClosed more → AreClosed (string_script address packet o named more)
  strings_closed None named more c = c
  strings_closed (Some s) named more c = ((λ e. absurd (cc)), texts_closed s.languages named 0 s.texts more c)

  other_closed : (o : Option Other) (more : List Exchange) → AreClosed more → AreClosed (other_script address packet o more)
  other_closed None more c = ((λ e. refl), c)
  other_closed (Some o) more c = ((λ e. absurd (cc)), sets_closed kinds.OtherSpeed 0 o.sets more c)

  named_closed : (f : DescriptorFile) → AreClosed (named_script address packet f)
  named_closed f = strings_closed f.strings (named_indices f) (last_script address packet f) ((λ e. absurd (cc)), tt)

  second_closed : (may : Bool) (f : DescriptorFile) → AreClosed (second_script address packet may f)
  second_closed true f = other_closed f.other (named_script address packet f) (named_closed f)
  second_closed false f = named_closed f

  pub script_closed : (terms : Terms) (f : DescriptorFile) → AreClosed (script address packet terms f)
  script_closed terms f =
      ((λ e. absurd (cc)), ((λ e. absurd (cc)), ((λ e. absurd (cc)), sets_closed kinds.Configuration 0 f.sets _ (second_closed (terms.choice.other_speed && may_have_second terms.speed f.device) f))))

-- ---- a responder's answers

module _ (room : ℕ) (s : State) (q : SetupPacket) where
  kept_bytes : (r : Response) → ((b : List ℕ) → r ≡ Gives b → AreBytes b) → HasBytes s → IsOfBytes (kept_open room s q r)
  kept_bytes (Gives b) fits state =
      when_fits (asks_for_bytes q && not (overflows room q b)) (Bytes (take q.length b)) (λ e. bytes_front q.length b (fits b refl))
  kept_bytes Does fits state = when_fits (q.length == 0) (Done s) (λ e. state)
  kept_bytes (Takes judge) fits state = when_fits (brings_bytes q && nat_le q.length room) (outcomes.Takes judge) (λ e. tt)
  kept_bytes Declines fits state = tt

  -- the answer where the table has one
  there : (o : Outcome) (r : Response) (open_ : Bool) → is_open q ≡ open_ →
      (otherwise o (kept_to room s q r) ≡ o) ⊎ ((o ≡ Refused) × (is_open q ≡ true))
  there (Bytes b) r open_ e = inl refl
  there (Done t) r open_ e = inl refl
  there (outcomes.Takes judge) r open_ e = inl refl
  there Refused r true e = inr (refl, e)
  there Refused r false e = inl (ap (λ c. when c (kept_open room s q r)) e)

pub beside_is : (f : DescriptorFile) (room : ℕ) (respond : State → SetupPacket → Response) →
    ((s : State) (q : SetupPacket) (b : List ℕ) → respond s q ≡ Gives b → AreBytes b) → IsTable (beside room (answer f) respond) →
    IsBeside (answer f) (beside room (answer f) respond)
beside_is f room respond fits is =
    record {
      keeps = is;
      same = λ s q. there room s q (answer f s q) (respond s q) (is_open q) refl;
      bytes = λ s q refused state.
          subst (λ o. IsOfBytes (otherwise o (kept_to room s q (respond s q)))) (sym refused)
          (when_fits (is_open q) (kept_open room s q (respond s q)) (λ e. kept_bytes room s q (respond s q) (fits s q) state));
    }
