-- What a handle owns.
use Rattle.std.specs.Prelude.{Option, Some, None}
use base.Fml.{Fml, feq}
use denote.RawPtr.{Ptr, null_ptr}
use Rattle.std.specs.Box.Ownership.{box_owns}
use Rattle.std.specs.contracts.impls.GlobalAllocator.TheImpl.{ghosts}
use Rattle.std.specs.declared.alloc.Global.{Global}
use Rattle.session_texts.specs.Sessions.{SessionView}
use Rattle.session_texts.specs.contracts.text_session.TextSession.{the_row}

-- the heap's handle, of which there is one
abbrev heap : Global
heap = record { memory = record { seal = tt } }

-- the session lies at the pointer, in a block that may be freed
abbrev pub session_at : Ptr → SessionView → Fml
session_at = box_owns (ghosts.dealloc_token heap) the_row

-- the pointer of an empty handle is null
abbrev pub handle_owns : Ptr → Option SessionView → Fml
handle_owns at None = feq Ptr at null_ptr
handle_owns at (Some x) = session_at at x
