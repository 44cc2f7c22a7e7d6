-- Spans and owners name no thread, so they may go to another one.
use Rattle.std.proofs.Common.{List, length}
use base.Fraction.{full_share}
use base.Shift.{Keyless}
use denote.Array.{Array}
use denote.RawPtr.{Ptr, block_ptr, null_ptr}
use denote.Param.Send.{IsSend, part_keyless, array_send, Frees, struct_send}
use denote.RattleType.{RattleType}
use denote.Struct.Declared as declared
use Rattle.std.specs.declared.alloc.Allocator.{Ghosts}
use Rattle.std.specs.Vec.{with_items}
use Rattle.std_alloc.proofs.SendSync.{Vec-send}
use Rattle.ts_land.specs.contracts.span.Span as Span
use Rattle.ts_land.specs.contracts.owner.Owner as Owner
use Rattle.ts_land.specs.contracts.owner.Owner.TheInside as Inside
use Rattle.ts_land.specs.Ownership.{span_owns}

pub span_owns-keyless : (T : RattleType) → IsSend T → (p : Ptr) (xs : List T.Denot) → Keyless (span_owns T p xs)
span_owns-keyless T s (block_ptr b o) xs = (tt, part_keyless (Array T (length xs)) (array_send T (length xs) s) full_share xs b o)
span_owns-keyless T s null_ptr xs = (tt, tt)

pub span-send : (T : RattleType) → IsSend T → IsSend (Span.the_row T)
span-send T s = record { owned = λ d vs. ((λ vss. (tt, ((λ uss. (tt, tt)), tt))), span_owns-keyless T s d.ptr d.items); leaving = λ k f vs. tt }

pub owner-send : (T A : RattleType) (g : Ghosts A.Denot) → IsSend T → IsSend A → Frees g g.dealloc_token → IsSend (Owner.the_row T A g)
owner-send T A g t s f = record {
  owned = λ e vs. (
    (λ _. tt),
    λ v. (
      tt,
      λ xs. (
        (tt, span_owns-keyless T t e.ptr xs),
        (struct_send (declared.shape (Inside.the_type T A g)) (Vec-send T A g t s f, tt)).owned (with_items v.vec xs, tt) vs,
      ),
    ),
  );
  leaving = λ k x w. tt;
}
