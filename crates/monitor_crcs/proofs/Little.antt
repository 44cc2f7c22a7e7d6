-- Readers that hold little.
use Rattle.std.proofs.Common.{◌≡◌, ℕ, ◌-◌, Bool, true, false, List, [], length, take, drop, subst, Some, None, ap, ◌∙◌, arith, refl, sym, ◌++◌, append_assoc, append-nil}
use Rattle.std.proofs.lemmas.List.{take_rest}
use Rattle.ts_demux.proofs.Choice.{if_true, if_false}
use Rattle.ts_demux.proofs.Cutting.{short_is_not_whole, unfinished_is_short}
use Rattle.monitor_crcs.proofs.Telling.{told_in-over, told_in-stop}
use Rattle.ts_demux.specs.Cut.{is_whole_in_front}
use Rattle.ts_demux.specs.Pieces.{IsAlive, IsOver}
use Rattle.monitor_crcs.specs.WrongCrcs.{told_in}
use Rattle.monitor_crcs.specs.Reader.{HoldsLittle, IsAtRest, told_after}
use Rattle.monitor_crcs.specs.declared.reader.PieceReader.{PieceReader}

pub little-empty : (r : PieceReader) → r.unfinished.items ≡ [] → HoldsLittle r
little-empty r e =
    record {
      closed = λ _. e;
      not_whole = ap is_whole_in_front e ∙ short_is_not_whole [] (omega arith);
      less_than_one = omega (arith, ap length e);
    }

pub little-open : (r : PieceReader) → r.is_open ≡ true → is_whole_in_front r.unfinished.items ≡ false → IsAlive r.unfinished.items → HoldsLittle r
little-open r o w a =
    record {
      closed = λ (f : r.is_open ≡ false). cc;
      not_whole = w;
      less_than_one = unfinished_is_short r.unfinished.items w a;
    }

pub rest-fresh : (r : PieceReader) → r.last ≡ None → r.is_open ≡ false → r.unfinished.items ≡ [] → IsAtRest r
rest-fresh r n o e =
    record {
      little = little-empty r e;
      counter = λ counter f. (let e : None ≡ Some counter = sym n ∙ f in cc);
      begun = λ _. o;
    }

-- a stretch of which nothing more comes may be closed
pub told_after-ended :
    (before after : List ℕ) (was_open is_open : Bool) (old bytes grown empty more : List ℕ) →
    was_open ≡ true → is_open ≡ false → grown ≡ old ++ bytes →
    before ++ told_in (grown ++ more) ≡ after →
    before ++ told_after was_open old (bytes ++ more) ≡ after ++ told_after is_open empty more
told_after-ended before after was_open is_open old bytes grown empty more o c g h =
    let a : told_after was_open old (bytes ++ more) ≡ told_in (old ++ (bytes ++ more)) = if_true was_open (told_in (old ++ (bytes ++ more))) [] o in
    let b : told_in (grown ++ more) ≡ told_in (old ++ (bytes ++ more)) = ap told_in (ap (λ t. t ++ more) g ∙ append_assoc old bytes more) in
    let d : told_after is_open empty more ≡ [] = if_false is_open (told_in (empty ++ more)) [] c in
    ap (λ t. before ++ t) (a ∙ sym b) ∙ h ∙ sym (ap (λ t. after ++ t) d ∙ append-nil after)

-- of bytes whose rest after the whole pieces is over, no more than these pieces come
pub cut-over :
    (before after : List ℕ) (bytes given seen : List ℕ) (at : ℕ) → given ≡ bytes → seen ≡ bytes →
    ((more : List ℕ) → before ++ told_in (given ++ more) ≡ after ++ told_in (drop at given ++ more)) →
    IsOver (take (length seen - at) (drop at seen)) → (more : List ℕ) → before ++ told_in (bytes ++ more) ≡ after
cut-over before after bytes given seen at g s h over more =
    let there : IsOver (drop at seen) = subst IsOver (take_rest seen at) over in
    let rest : IsOver (drop at bytes) = subst (λ b. IsOver (drop at b)) s there in
    let cut : before ++ told_in (bytes ++ more) ≡ after ++ told_in (drop at bytes ++ more) =
    subst (λ b. before ++ told_in (b ++ more) ≡ after ++ told_in (drop at b ++ more)) g (h more) in
    cut ∙ ap (λ t. after ++ t) (told_in-over (drop at bytes) more rest) ∙ append-nil after

-- with no more bytes nothing comes of what is not whole
pub told_after-nothing :
    (is_open : Bool) (bytes : List ℕ) → is_whole_in_front bytes ≡ false → told_after is_open bytes [] ≡ []
told_after-nothing true bytes w = ap told_in (append-nil bytes) ∙ told_in-stop bytes w
told_after-nothing false bytes w = refl
