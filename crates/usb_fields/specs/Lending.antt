-- What a sequence ends as, where a `&mut` into it is returned: that depends on what is written through it.
use Rattle.std.specs.Prelude.{ℕ, List, Option, length, slice_set}
use Rattle.std.specs.List.{refill}
use Rattle.std.specs.Borrow.{Lends, LendsIf, Array, Fml, RattleType, MutBor}
use Rattle.usb_fields.specs.contracts.sequence.Sequence.{the_row}

-- for a sequence `s` of elements of type `T`; `s.now` is its list when it is lent
module _ (T : RattleType) (s : MutBor (List T.Denot)) where
  -- once the borrow r ends, the element at i is the last value written through r, and the others are as they were
  abbrev pub LendsItem : ℕ → MutBor T.Denot → Fml
  LendsItem i r = Lends (the_row T) T s r (slice_set s.now i)

  -- the same where r is a reference, and at `None` the sequence stays as it is
  abbrev pub LendsItemIf : ℕ → Option (MutBor T.Denot) → Fml
  LendsItemIf i r = LendsIf (the_row T) T s r (slice_set s.now i) s.now

  -- once the borrow r ends, the elements are those that r shows last, as many as before
  abbrev pub LendsItems : MutBor (List T.Denot) → Fml
  LendsItems r = Lends (the_row T) (Array T 0) s r (refill (length s.now) s.now)
