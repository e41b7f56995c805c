-- What a handle owns.
use Rattle.std.specs.Prelude.{Option, Some, None}
use base.Fml.{Fml, feq}
use denote.RattleType.{RattleType}
use denote.RawPtr.{Ptr, null_ptr}
use Rattle.std.specs.Box.Ownership.{box_owns}
use Rattle.std.specs.contracts.impls.GlobalAllocator.TheImpl.{ghosts}
use Rattle.std.specs.declared.alloc.Global.{Global}
use Rattle.std.specs.declared.boxed.Box.{Box}

-- the pointer is null, or that of a block which holds this value
abbrev pub owned : (R : RattleType) → Global → Ptr → Option R.Denot → Fml
owned R a p None = feq Ptr p null_ptr
owned R a p (Some x) = box_owns (ghosts.dealloc_token a) R p x

-- the value of a box, if there is one
abbrev pub held_by : {T : Type 0} → Option (Box T Global) → Option T
held_by None = None
held_by (Some b) = Some b.value
