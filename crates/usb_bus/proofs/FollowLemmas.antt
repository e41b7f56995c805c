-- A script that a cursor walks and a device serves is followed by the plan of that cursor.
use Rattle.std.proofs.Common.{◌≡◌, ℕ, ◌&&◌, Bool, true, false, if◌then◌else◌, List, [], ◌∷◌, ◌++◌, refl, ap, sym, ◌∙◌, append_assoc, inl}
use Rattle.std.proofs.lemmas.List.{append-nil}
use Rattle.usb_fields.specs.declared.setup.Setup.{Setup as SetupPacket}
use Rattle.usb_device.specs.declared.state.State.{State}
use Rattle.usb_device.specs.Requests.{Outcome}
use Rattle.usb_device.specs.Step.{carried_out}
use Rattle.usb_host.specs.Terms.{forgives_any}
use Rattle.usb_host.specs.declared.choice.NamedStrings.{NamedStrings}
use Rattle.usb_host.specs.declared.choice.Terms.{Terms}
use Rattle.usb_host.specs.declared.reply.Reply.{Reply}
use Rattle.usb_host.specs.Plan.{Begin}
use Rattle.usb_file_data.specs.declared.file.DescriptorFile.{DescriptorFile}
use Rattle.usb_bus.specs.inside.Sound.{Follows}
use Rattle.usb_bus.specs.Attempt.{no_data}
use Rattle.usb_bus.specs.Beside.{IsTable}
use Rattle.usb_set.specs.declared.tree.Configuration.{Configuration}
use Rattle.std.specs.Prelude.{Option}
use Rattle.usb_host.specs.Limits.{LimitView}
use Rattle.usb_host.specs.Place.{Place, First, Address, Device, Header, Set, Qualifier, Languages, Text, Configure, Reported, Stopped}
use Rattle.usb_host.specs.Order.{asks, ends_lacking, forgiven_by, leads, next, spared, stand_in, step_of}
use Rattle.usb_host.specs.Gathered.{reached}
use Rattle.usb_bus.specs.inside.Script.{Exchange, replies_in}
use Rattle.usb_bus.specs.inside.Image.{passed_over, plan_of}
use Rattle.usb_bus.specs.inside.Following.{WalksScript, Serves}

-- a place from which a script leads to a report is no end for a string, so nothing is passed over there
ends_no_read : (set_of : List ℕ → Option Configuration) (terms : Terms) (address : ℕ) (g : DescriptorFile) (here there : Place) (xs : List Exchange) →
    WalksScript set_of terms address (Reported g) there xs → ends_lacking here there ≡ false
ends_no_read set_of terms address g here First xs w = refl
ends_no_read set_of terms address g here (Address first) xs w = refl
ends_no_read set_of terms address g here (Device first) xs w = refl
ends_no_read set_of terms address g here (Header kind f) xs w = refl
ends_no_read set_of terms address g here (Set kind f total) xs w = refl
ends_no_read set_of terms address g here (Qualifier f) xs w = refl
ends_no_read set_of terms address g here (Languages f named) xs w = refl
ends_no_read set_of terms address g here (Text f s named) xs w = refl
ends_no_read set_of terms address g here (Configure f) xs w = refl
ends_no_read set_of terms address g here (Reported f) xs w = refl
ends_no_read set_of terms address g here (Stopped trouble) [] w = absurd (cc)
ends_no_read set_of terms address g here (Stopped trouble) (x ∷ xs) w = absurd (let asked = w.0 in cc)

not_and : (a b : Bool) → b ≡ false → (a && b) ≡ false
not_and true b e = e
not_and false b e = refl

plainly : (texts : NamedStrings) (here there : Place) → ends_lacking here there ≡ false → spared texts here there ≡ there
plainly texts here there e = ap (λ b. if b then stand_in here else there) (not_and (forgives_any texts) (ends_lacking here there) e)

none_by : (texts : NamedStrings) (here there : Place) → ends_lacking here there ≡ false → forgiven_by texts here there ≡ []
none_by texts here (Stopped trouble) e =
    ap (λ b. if b then (record { step = step_of here; why = trouble.why }) ∷ [] else []) (not_and (forgives_any texts) (ends_lacking here (Stopped trouble)) e)
none_by texts here First e = refl
none_by texts here (Address first) e = refl
none_by texts here (Device first) e = refl
none_by texts here (Header kind f) e = refl
none_by texts here (Set kind f total) e = refl
none_by texts here (Qualifier f) e = refl
none_by texts here (Languages f named) e = refl
none_by texts here (Text f s named) e = refl
none_by texts here (Configure f) e = refl
none_by texts here (Reported f) e = refl

module _ (set_of : List ℕ → Option Configuration) (terms : Terms) where
  pub walk_append : (c : Place) (rs : List Reply) (r : Reply) → reached set_of terms c (rs ++ r ∷ []) ≡ next set_of terms (reached set_of terms c rs) r
  walk_append c [] r = refl
  walk_append c (x ∷ rs) r = walk_append (next set_of terms c x) rs r

  pub passed_append : (c : Place) (rs : List Reply) (r : Reply) →
      passed_over set_of terms c (rs ++ r ∷ []) ≡ passed_over set_of terms c rs ++ forgiven_by terms.choice.strings (reached set_of terms c rs) (leads set_of terms (reached set_of terms c rs) r)
  passed_append c [] r = append-nil (forgiven_by terms.choice.strings c (leads set_of terms c r))
  passed_append c (x ∷ rs) r =
      ap (λ ts. forgiven_by terms.choice.strings c (leads set_of terms c x) ++ ts) (passed_append (next set_of terms c x) rs r)
      ∙ sym (append_assoc (forgiven_by terms.choice.strings c (leads set_of terms c x)) (passed_over set_of terms (next set_of terms c x) rs)
      (forgiven_by terms.choice.strings (reached set_of terms (next set_of terms c x) rs) (leads set_of terms (reached set_of terms (next set_of terms c x) rs) r)))

  module _ (address : ℕ) (g : DescriptorFile) where
    abbrev W : Place → List Exchange → Type 0
    W c xs = WalksScript set_of terms address (Reported g) c xs

    -- where a script leads to, nothing is passed over
    same_next : (c : Place) (x : Exchange) (xs : List Exchange) → W c (x ∷ xs) → next set_of terms c x.reply ≡ leads set_of terms c x.reply
    same_next c x xs w =
        plainly terms.choice.strings c (leads set_of terms c x.reply) (ends_no_read set_of terms address g c (leads set_of terms c x.reply) xs w.1)

    pub walks_to : (c : Place) (xs : List Exchange) → W c xs → reached set_of terms c (replies_in xs) ≡ Reported g
    walks_to c [] w = w
    walks_to c (x ∷ xs) w =
        ap (λ y. reached set_of terms y (replies_in xs)) (same_next c x xs w) ∙ walks_to (leads set_of terms c x.reply) xs w.1

    pub passes_none : (c : Place) (xs : List Exchange) → W c xs → passed_over set_of terms c (replies_in xs) ≡ []
    passes_none c [] w = refl
    passes_none c (x ∷ xs) w =
        ap (λ ts. ts ++ passed_over set_of terms (next set_of terms c x.reply) (replies_in xs))
        (none_by terms.choice.strings c (leads set_of terms c x.reply) (ends_no_read set_of terms address g c (leads set_of terms c x.reply) xs w.1))
        ∙ ap (λ y. passed_over set_of terms y (replies_in xs)) (same_next c x xs w) ∙ passes_none (leads set_of terms c x.reply) xs w.1

  module _ (limits : LimitView) (answer : State → SetupPacket → Outcome) (table : IsTable answer) (n : ℕ) (g : DescriptorFile) (all : List Reply) (last : State) where
    pub follows : (xs : List Exchange) (s : State) (c : Place) (replies : List Reply) →
        reached set_of terms First replies ≡ c → replies ++ replies_in xs ≡ all →
        WalksScript set_of terms limits.address (Reported g) c xs → Serves answer n last s xs →
        Follows (plan_of set_of limits terms) limits.naks no_data answer n false all last s replies (replies_in xs)
    follows [] s c replies at whole w d =
        (ap (asks limits.address) (at ∙ w), d, sym (append-nil replies) ∙ whole)
    follows (x ∷ xs) s c replies at whole w d =
        let on : reached set_of terms First (replies ++ x.reply ∷ []) ≡ leads set_of terms c x.reply =
        walk_append First replies x.reply ∙ ap (λ y. next set_of terms y x.reply) at ∙ same_next limits.address g c x xs w in (
          x.packet,
          (
            x.request,
            (
              record {
                begins = ap (asks limits.address) at ∙ (w.0 ∙ ap (λ y. Begin y x.packet x.request) d.0.address);
                data_out = inl refl;
                answering = table.answering s x.request;
                is_cut = d.0.is_cut;
                sizes = d.0.sizes;
                reply = d.0.reply;
                address = λ t e i. (let g = (table.goes s x.request t e i).1 in rw g refl);
              },
              whole,
              (λ i e. absurd (d.1 i (nil xs e))),
              follows xs (carried_out s (answer s x.request)) (leads set_of terms c x.reply) (replies ++ x.reply ∷ []) on (rw append_assoc whole) w.1 d.2,
            ),
          ),
        )
      where
        nil : (ys : List Exchange) → replies_in ys ≡ [] → ys ≡ []
        nil [] e = refl
        nil (y ∷ ys) e = absurd (cc)
