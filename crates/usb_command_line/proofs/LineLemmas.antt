-- What the command of `usbdesc` is, and that words without a fault name one of its subcommands.
use Rattle.std.proofs.Common.{refl, true, false, ◌≡◌, ◌&&◌, ◌||◌, Bool, ℕ, cond, List, [], ◌∷◌, length, suc, arith, ap, fold, Option, Some, None, is_some, codes, option_map, find, slice_index_or, subst, sym, true≢false, inl, inr, ◌∙◌}
use Rattle.std.specs.Prelude.{⊤, IfOk, Result, Ok, Err}
use Rattle.std.specs.Str.{bytes_eq}
use Rattle.std.proofs.lemmas.Slice.Eq.{bytes_eq-Decides}
use Rattle.clap.specs.declared.error.kind.ErrorKind.{ErrorKind}
use Rattle.clap.specs.declared.error.Error.{Error}
use Rattle.clap.specs.declared.parser.matches.ArgMatches.{ArgMatches}
use Rattle.clap.specs.declared.error.kind.ErrorKind.TheVariants.{DisplayHelp, InvalidSubcommand}
use Rattle.clap.specs.Words.{Text, Row, fault_of, is_simple, is_simple_and_free, subcommand_of, subcommand_rows_of}
use Rattle.clap.specs.Kinds.{FailsBy, Kinds, or_else}
use Rattle.clap.specs.Walk.{Held, Names, Outcome, Rule, Step, Waiting, Walk, after_flag, after_step, answers_to, arg_by_index, done, finished, idle, long_or_other, next, nothing_held, option, plain, plain_word, positional, refused, settled, short_or_plain, subcommand, subcommand_met, subcommand_or_other, to_positional, trailing, value, waits, walk, walk_from, walked, word_met}
use Rattle.clap.specs.Lexer.{short_of, long_of}
use Rattle.clap.specs.Simple.{Shape, argument_words, built, entered, help_shape, label_of, names_of, rows_at}
use Rattle.clap.specs.Faults.{check_fault, defaults_fault, entered_fault, other_fault, settle_fault, turn_fault, walk_fault, word_fault}
use Rattle.clap.proofs.OnLiterals.{clap_on_literals}
use Rattle.usb_command_line.specs.CommandLine.{usbdesc_app}
use Rattle.usb_command_line.specs.inside.Parsing.{NamesCommand}

pub usbdesc_simple : is_simple usbdesc_app ≡ true
unfolding clap_on_literals
usbdesc_simple = refl

pub usbdesc_free : is_simple_and_free usbdesc_app ≡ true
unfolding clap_on_literals
usbdesc_free = refl

-- ---- no walk without a fault stops at a request for help

none_is_left : (k : ErrorKind) (ks : Kinds) → k ∷ ks ≡ [] → ⊥
none_is_left k ks e =
    let bad : suc (length ks) ≡ 0 = ap length e in
    absurd (omega arith)

none_of_both : (a b : Kinds) → or_else a b ≡ [] → (a ≡ []) × (b ≡ [])
none_of_both [] b e = (refl, e)
none_of_both (k ∷ ks) b e = absurd (none_is_left _ _ e)

-- a walk didn't stop, or not at a request for help
abbrev IsNoHelp : Option (Text × List Text) → Type 0
IsNoHelp None = ⊤
IsNoHelp (Some p) = bytes_eq p.0 (codes "help") ≡ false

-- the step enters no subcommand
abbrev Stays : Step → Type 0
Stays (subcommand name) = ⊥
Stays _ = ⊤

plain_stays : (c : List Rule) (waiting : Waiting) (word : Text) (h : Held) → Stays (plain_word c waiting word h).1
plain_stays c idle word h = tt
plain_stays c (option id) word h = tt
plain_stays c positional word h = tt

flag_stays : (c : List Rule) (waiting : Waiting) (word : Text) (h : Held) (o : Outcome) → Stays (after_flag c waiting word h o).1
flag_stays c waiting word h done = tt
flag_stays c waiting word h (waits id) = tt
flag_stays c waiting word h plain = plain_stays c waiting word h
flag_stays c waiting word h refused = plain_stays c waiting word h

other_stays : (c : List Rule) (waiting : Waiting) (word : Text) (o : Option (Text × Option Text)) (h : Held) → Stays (long_or_other c waiting word o h).1
other_stays c waiting word (Some p) h = flag_stays c waiting word _ _
other_stays c waiting word None h = go (short_of word)
  where
    go : (o : Option Text) → Stays (short_or_plain c waiting word o h).1
    go None = plain_stays c waiting word h
    go (Some flags) = flag_stays c waiting word _ _

-- the walk has not stopped
abbrev onward : Walk → Walk
onward w = record w { stopped = None }

step_stays : (c : List Rule) (word : Text) (w : Walk) (h : Held) (step : Step) → Stays step → IsNoHelp (after_step c word (onward w) h step).stopped
step_stays c word w h (next waiting) stays = tt
step_stays c word w h (trailing position) stays = tt
step_stays c word w h (subcommand name) stays = absurd stays
step_stays c word w h value stays = go (arg_by_index c w.position)
  where
    go : (o : Option Rule) → IsNoHelp (to_positional c o word (onward w) h).stopped
    go None = tt
    go (Some a) = tt

module _ (s : Shape) (names : Names) (w : Walk) (word : Text) (enabled : s.disable_help_subcommand ≡ false) where
  named_no_help : (name : Text) → other_fault s (Some name) word w.held ≡ [] → bytes_eq name (codes "help") ≡ false
  named_no_help name e = go (bytes_eq name (codes "help")) (rw enabled at e)
    where
      go : (b : Bool) → cond (b && true) (DisplayHelp ∷ InvalidSubcommand ∷ []) [] ≡ [] → b ≡ false
      go false e = refl
      go true e = absurd (none_is_left _ _ e)

  met_no_help : (o : Option Text) → other_fault s o word w.held ≡ []
      → IsNoHelp (after_step s.rules word (onward w) (subcommand_or_other s.rules o w.waiting w.position word w.held).0
      (subcommand_or_other s.rules o w.waiting w.position word w.held).1).stopped
  met_no_help (Some name) e = named_no_help name e
  met_no_help None e = go (bytes_eq word (45 ∷ 45 ∷ []))
    where
      met : Bool → Held × Step
      met b = cond b (w.held, trailing w.position) (long_or_other s.rules w.waiting word (long_of word) w.held)

      go : (b : Bool) → IsNoHelp (after_step s.rules word (onward w) (met b).0 (met b).1).stopped
      go true = tt
      go false = step_stays s.rules word w _ _ (other_stays s.rules w.waiting word (long_of word) w.held)

  word_no_help : (t : Bool) → word_fault s names t w.waiting word w.held ≡ []
      → IsNoHelp (after_step s.rules word (onward w) (word_met s.rules names t w.waiting w.position word w.held).0
      (word_met s.rules names t w.waiting w.position word w.held).1).stopped
  word_no_help true e = step_stays s.rules word w w.held value tt
  word_no_help false e = met_no_help (subcommand_met names w.waiting word) e

  turn_no_help : (o : Option (Text × List Text)) → IsNoHelp o → turn_fault s names (record w { stopped = o }) word ≡ []
      → IsNoHelp (walked s.rules names (record w { stopped = o }) word).stopped
  unfolding walked
  turn_no_help (Some p) before e = before
  turn_no_help None before e = word_no_help w.is_trailing (none_of_both _ _ e).0

walk_no_help : (s : Shape) (names : Names) (w : Walk) (words : List Text) → s.disable_help_subcommand ≡ false → IsNoHelp w.stopped
    → walk_fault s names w words ≡ [] → IsNoHelp (fold (walked s.rules names) w words).stopped
unfolding walk_fault
walk_no_help s names w [] enabled before e = before
walk_no_help s names w (word ∷ rest) enabled before e =
    let each = none_of_both _ _ e in
    walk_no_help s names (walked s.rules names w word) rest enabled (turn_no_help s names w word enabled w.stopped before each.0) each.1

-- ---- the subcommand at which it stops

help_unanswered : (name : Text) → bytes_eq name (codes "help") ≡ false → (bytes_eq (codes "help") name || false) ≡ false
help_unanswered name e = go (bytes_eq (codes "help") name) refl
  where
    go : (b : Bool) → bytes_eq (codes "help") name ≡ b → (b || false) ≡ false
    go false is = refl
    go true is = absurd (true≢false (sym ((bytes_eq-Decides name (codes "help")).1 (sym ((bytes_eq-Decides (codes "help") name).0 is))) ∙ e))

-- of seven subcommands the last, `help`, isn't the one that is found
module _ (x y z v u t help : Shape) (rest : List Text) (f : Shape → Bool) where
  abbrev found : Option (Text × List Row)
  found = option_map (λ s. rows_at s rest) (find f (x ∷ y ∷ z ∷ v ∷ u ∷ t ∷ help ∷ []))

  named_of_seven : (a b c d e g : Bool) → x.name ≡ codes "show" → y.name ≡ codes "check" → z.name ≡ codes "build" → v.name ≡ codes "explain" → u.name ≡ codes "enumerate"
      → t.name ≡ codes "capture"
      → f x ≡ a → f y ≡ b → f z ≡ c → f v ≡ d → f u ≡ e → f t ≡ g → f help ≡ false → is_some found ≡ true → NamesCommand found
  named_of_seven true b c d e g show check build explain enumerate capture first second third fourth fifth sixth last some = inl (rw first (ap Some show))
  named_of_seven false true c d e g show check build explain enumerate capture first second third fourth fifth sixth last some =
      inr (inl (rw (first, second) (ap Some check)))
  named_of_seven false false true d e g show check build explain enumerate capture first second third fourth fifth sixth last some =
      inr (inr (inl (rw (first, second, third) (ap Some build))))
  named_of_seven false false false true e g show check build explain enumerate capture first second third fourth fifth sixth last some =
      inr (inr (inr (inl (rw (first, second, third, fourth) (ap Some explain)))))
  named_of_seven false false false false true g show check build explain enumerate capture first second third fourth fifth sixth last some =
      inr (inr (inr (inr (inl (rw (first, second, third, fourth, fifth) (ap Some enumerate))))))
  named_of_seven false false false false false true show check build explain enumerate capture first second third fourth fifth sixth last some =
      inr (inr (inr (inr (inr (rw (first, second, third, fourth, fifth, sixth) (ap Some capture))))))
  named_of_seven false false false false false false show check build explain enumerate capture first second third fourth fifth sixth last some =
      absurd (true≢false (sym (rw (first, second, third, fourth, fifth, sixth, last) at some)))

-- the program's subcommands, and the `help` that building adds
abbrev sub : ℕ → Shape
sub k = slice_index_or (built usbdesc_app).subs k help_shape

named_at : (stop : Option (Text × List Text)) → IsNoHelp stop → is_some (entered (built usbdesc_app) stop) ≡ true → NamesCommand (entered (built usbdesc_app) stop)
named_at None other some = absurd (true≢false (sym some))
named_at (Some p) other some =
    named_of_seven (sub 0) (sub 1) (sub 2) (sub 3) (sub 4) (sub 5) (sub 6) p.1 (λ s. answers_to p.0 (label_of s)) _ _ _ _ _ _ refl refl refl refl refl refl refl refl refl refl refl refl (help_unanswered p.0 other) some

-- a subcommand is required
command_met : (rows : List Row) (has : Bool) → check_fault (built usbdesc_app).top rows has ≡ [] → has ≡ true
command_met rows true e = refl
command_met rows false e = absurd (none_is_left _ _ e)

first_and_last : (a b c d e : Kinds) → or_else a (or_else b (or_else c (or_else d e))) ≡ [] → (a ≡ []) × (e ≡ [])
first_and_last a b c d e none =
    let after = none_of_both a _ none in
    (after.0, (none_of_both d e (none_of_both c _ (none_of_both b _ after.1).1).1).1)

-- words without a fault name a command
pub command_named : (words : List Text) → fault_of usbdesc_app words ≡ [] → NamesCommand (subcommand_of usbdesc_app words)
command_named words none =
    let a = built usbdesc_app in
    let s = a.top in
    let ws = argument_words usbdesc_app words in
    let end = walk s.rules (names_of a) nothing_held ws in
    let rows = (settled s.rules end.held).rows in
    let has = is_some (entered a end.stopped) in
    let passed = first_and_last (walk_fault s (names_of a) (walk_from nothing_held) ws) (entered_fault a end.stopped)
    (settle_fault s.rules s.args_override_self end.held) (defaults_fault rows s.rules) (check_fault s (finished s.rules end.held) has) none in
    named_at end.stopped (walk_no_help s (names_of a) (walk_from nothing_held) ws refl tt passed.0) (command_met (finished s.rules end.held) has passed.1)

-- and so do the matches of a parse that succeeds
pub parse_names : (words : List Text) (r : Result ArgMatches Error) → FailsBy (fault_of usbdesc_app words) r
    → IfOk r (λ m. subcommand_rows_of m ≡ subcommand_of usbdesc_app words) → IfOk r (λ m. NamesCommand (subcommand_rows_of m))
parse_names words (Ok m) none is = subst NamesCommand (sym is) (command_named words none)
parse_names words (Err e) fails is = tt
