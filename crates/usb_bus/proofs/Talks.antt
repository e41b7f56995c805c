-- A talk's plan is answered by the device.
use Rattle.std.proofs.Common.{◌≡◌, ℕ, suc, length, ◌%◌, ◌<◌, Bool, true, false, List, [], ◌∷◌, ◌++◌, refl, ap, sym, ◌∙◌, arith, append_assoc, if◌then◌else◌, inl, inr, subst, ◌==◌, ◌&&◌}
use Rattle.std.proofs.lemmas.Bool.Decides.{nat_tests}
use Rattle.std.proofs.lemmas.List.{append-nil}
use Rattle.usb_fields.specs.declared.setup.Setup.{Setup as SetupPacket}
use Rattle.usb_device.specs.declared.state.State.{State}
use Rattle.usb_device.specs.Requests.{Outcome, Bytes, Done, Refused, Takes}
use Rattle.usb_device.specs.Step.{is_set_address, carried_out, new_device}
use Rattle.usb_host.specs.Plan.{Plan}
use Rattle.usb_host.specs.declared.reply.Reply.{Reply}
use Rattle.usb_host.specs.declared.reply.Reply.TheVariants as replied
use Rattle.usb_device.specs.Beside.{brings_bytes}
use Rattle.usb_bus.specs.inside.Sound.{Follows}
use Rattle.usb_bus.specs.Attempt.{AreDataOf, attempt_run, judged_reply, reply_to}
use Rattle.usb_bus.specs.Converse.{AskedView, data_sent, sent_at, talk_data, first_place, talk_start, Place, ends_with_address, followed, onward, reached, asked_at, talk_plan, replies_to, state_after}
use Rattle.usb_bus.specs.Laws.{TalksHaveCauses}
use Rattle.usb_bus.proofs.Attempts.{attempts_sound, sound_ends}
use Rattle.usb_bus.specs.Beside.{IsTable}

pub reached_append : (p : Place) (rs : List Reply) (r : Reply) → reached p (rs ++ r ∷ []) ≡ onward (reached p rs).left (reached p rs).address r
reached_append p [] r = refl
reached_append p (x ∷ rs) r = reached_append (onward p.left p.address x) rs r

module _ (answer : State → SetupPacket → Outcome) (table : IsTable answer) (n naks : ℕ) (pos : 0 < n) (start : Place) (loose : Bool) (all : List Reply) (last : State) where
  -- the host goes where the device went
  goes_along : (s : State) (q : SetupPacket) (bytes : List ℕ) (o : Outcome) → answer s q ≡ o → followed q (reply_to bytes o) s.address ≡ (carried_out s o).address
  goes_along s q bytes (Bytes b) e = refl
  goes_along s q bytes Refused e = refl
  goes_along s q bytes (Takes judge) e = by_data bytes
    where
      -- with data it is no SET_ADDRESS that is followed
      stays_there : (taken : Bool) → followed q (if taken then replied.Done else replied.Refused) s.address ≡ s.address
      stays_there false = refl
      stays_there true = (let some = ((table.answering s q).takes judge e).0 in grind (arith, nat_tests))

      by_data : (xs : List ℕ) → followed q (judged_reply judge xs) s.address ≡ s.address
      by_data [] = refl
      by_data (x ∷ xs) = stays_there (judge (x ∷ xs))
  goes_along s q bytes (Done t) e = ap (λ n. if is_set_address q && (n == 0) then q.value % 128 else s.address) ((table.answering s q).done t e) ∙ by_kind (is_set_address q) refl
    where
      by_kind : (k : Bool) → (is_set_address q) ≡ k → (if k && true then q.value % 128 else s.address) ≡ t.address
      by_kind true i =
          let goes = table.goes s q t e i in
          let low : q.value % 128 ≡ q.value = (let small = goes.0 in omega arith) in
          low ∙ ap (λ x. x.address) (sym goes.1)
      by_kind false i = sym ((table.answering s q).stays t e i)

  -- what is sent with a request are data that go with it
  are_data : (a : AskedView) → AreDataOf a.setup (data_sent a)
  are_data a = by (brings_bytes a.setup) (length a.data_out == a.setup.length) refl refl
    where
      by : (brings all : Bool) → brings_bytes a.setup ≡ brings → (length a.data_out == a.setup.length) ≡ all →
          AreDataOf a.setup (if brings && all then a.data_out else [])
      by true true goes same = inr (goes, (grind (arith, nat_tests)))
      by true false goes same = inl refl
      by false all goes same = inl refl

  -- a SET_ADDRESS that comes last is reported
  moves_last : (q : AskedView) (qs : List AskedView) (s : State) → (ends_with_address (q ∷ qs) ≡ true → loose ≡ true) →
      is_set_address q.setup ≡ true → replies_to answer s qs ≡ [] → loose ≡ true
  moves_last q [] s report is none = report is
  moves_last q (x ∷ qs) s report is none =
      absurd (let longer : suc (length (replies_to answer (carried_out s (answer s x.setup)) qs)) ≡ 0 = ap length none in omega arith)

  tells_on : (q : AskedView) (qs : List AskedView) → (ends_with_address (q ∷ qs) ≡ true → loose ≡ true) → ends_with_address qs ≡ true → loose ≡ true
  tells_on q [] report is = absurd (grind arith)
  tells_on q (x ∷ qs) report is = report is

  pub talk_follows : (qs : List AskedView) (s : State) (replies : List Reply) →
      reached start replies ≡ record { left = qs; address = s.address } → replies ++ replies_to answer s qs ≡ all → state_after answer s qs ≡ last →
      (ends_with_address qs ≡ true → loose ≡ true) → Follows (talk_plan n start) naks (talk_data start) answer n loose all last s replies (replies_to answer s qs)
  talk_follows [] s replies at whole end report =
      (ap (λ p. asked_at n p.address p.left) at, end, sym (append-nil replies) ∙ whole)
  talk_follows (a ∷ qs) s replies at whole end report =
      let q = a.setup in
      let sent : talk_data start replies ≡ data_sent a = ap (λ p. sent_at p.left) at in
      let r = reply_to (data_sent a) (answer s q) in
      let on : reached start (replies ++ r ∷ []) ≡ record { left = qs; address = (carried_out s (answer s q)).address } =
      reached_append start replies r ∙ ap (λ p. onward p.left p.address r) at
      ∙ ap (λ x. let y : Place = record { left = qs; address = x } in y) (goes_along s q (data_sent a) (answer s q) refl) in (
        n,
        (
          q,
          (
            record {
              begins = ap (λ p. asked_at n p.address p.left) at;
              data_out = subst (λ b. AreDataOf q b) (sym sent) (are_data a);
              answering = table.answering s q;
              is_cut = λ b e. (pos, table.fits s q b e, refl);
              sizes = λ judge e. (pos, refl);
              reply = ap (λ b. reply_to b (answer s q)) sent;
              address = λ t e i. (let g = (table.goes s q t e i).1 in rw g refl);
            },
            whole,
            moves_last a qs (carried_out s (answer s q)) report,
            talk_follows qs (carried_out s (answer s q)) (replies ++ r ∷ []) on (rw append_assoc whole) end (tells_on a qs report),
          ),
        ),
      )

-- a talk is sound over every list of fates, and so are its replies, its cause and its state where it has ended
pub talk_ends : TalksHaveCauses
talk_ends answer packet naks qs fates pos table =
    let s = new_device.state in
    let all = replies_to answer s qs in
    let last = state_after answer s qs in
    let plan : List Reply → Plan = talk_plan packet (first_place qs) in
    let sends = talk_data (first_place qs) in
    let x = attempt_run plan naks sends answer packet fates (talk_start packet naks qs) in
    let moved : Bool = ends_with_address qs in
    sound_ends plan naks sends answer packet moved all last fates x.replies x.phase x.device
    (attempts_sound plan naks sends answer packet moved all last new_device fates
    (talk_follows answer table packet naks pos (first_place qs) moved all last qs s [] refl refl refl (λ is. is)))
