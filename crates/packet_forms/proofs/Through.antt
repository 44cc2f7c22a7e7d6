-- A source that leaves bytes out, after a read of the other source, and what was read of that one in all.
use Rattle.std.proofs.Common.{◌≡◌, ◌⊎◌, inl, inr, ℕ, ◌+◌, ◌-◌, ◌%◌, List, [], ◌++◌, Option, None, Some, IfSome, length, take, refl, ap, sym, ◌∙◌, subst, arith, append_assoc, length-append}
use Rattle.std.specs.Option.{option_map}
use Rattle.std.proofs.lemmas.List.{take_at, append_cancel_right, nil_from_length}
use Rattle.ts_outside.specs.Told.{before}
use Rattle.ts_outside.specs.Source.{SourceView, Origin, unread, read_failed}
use Rattle.packet_forms.specs.declared.forms.Form.{Form}
use Rattle.packet_forms.specs.Stripped.{unit, stripped_from, stripped}
use Rattle.packet_forms.proofs.Strips.{stripped-parts, stripped-behind, stripped-nil, place-add, in-unit, place-in-unit, same-form, stripped-place}
use Rattle.packet_forms.specs.FormView.{form_view, came, place_behind, ReadsThrough}

-- what was read of a file of which these bytes of packets were given and so much is left: its first bytes, and stripped
-- they are what was given
pub record ReadOf (form : Form) (file given : List ℕ) (left : Option (List ℕ)) : Type 0 where
  pub raw : List ℕ
  pub rest : List ℕ
  pub left_is : left ≡ Some rest
  pub file_is : file ≡ raw ++ rest
  pub given_is : stripped_from form 0 raw ≡ given

-- the first of two parts
first-part : (all a b : List ℕ) → all ≡ a ++ b → take (length all - length b) all ≡ a
first-part all a b is =
    let long : length all ≡ length a + length b = ap (λ (l : List ℕ). length l) is ∙ length-append a b in
    let few : length a ≡ length all - length b = omega arith in
    ap (take (length all - length b)) is ∙ take_at a b (length all - length b) few

-- what came of all, and what is left
pub behind-more : (all old new : Option (List ℕ)) (bytes : List ℕ) → all ≡ before (came all old) old → old ≡ before bytes new → all ≡ before (came all new) new
behind-more None old None bytes is moved = refl
behind-more None old (Some l) bytes is moved =
    let no : None ≡ before (came None old) (Some (bytes ++ l)) = is ∙ ap (before (came None old)) moved in
    absurd cc
behind-more (Some a) old None bytes is moved =
    let no : Some a ≡ before (came (Some a) old) None = is ∙ ap (before (came (Some a) old)) moved in
    absurd cc
behind-more (Some a) old (Some l) bytes is moved =
    let t : List ℕ = came (Some a) old in
    let e : Some a ≡ Some (t ++ (bytes ++ l)) = is ∙ ap (before t) moved in
    let parts : a ≡ t ++ (bytes ++ l) = cc in
    let whole : a ≡ (t ++ bytes) ++ l = parts ∙ sym (append_assoc t bytes l) in
    ap Some (whole ∙ ap (λ (p : List ℕ). p ++ l) (sym (first-part a (t ++ bytes) l whole)))

pub place-more : (form : Form) (at : ℕ) (all old new : Option (List ℕ)) (bytes : List ℕ) (n : ℕ) → n ≡ length bytes → all ≡ before (came all old) old
    → at ≡ place_behind form at all old → old ≡ before bytes new → (at + n) % unit form ≡ place_behind form ((at + n) % unit form) all new
place-more form at None old None bytes n long is place moved = refl
place-more form at None old (Some l) bytes n long is place moved = refl
place-more form at (Some a) old None bytes n long is place moved = refl
place-more form at (Some a) old (Some l) bytes n long is place moved =
    let t : List ℕ = came (Some a) (Some (bytes ++ l)) in
    let e : Some a ≡ Some (t ++ (bytes ++ l)) = subst (λ (o : Option (List ℕ)). Some a ≡ before (came (Some a) o) o) moved is in
    let parts : a ≡ t ++ (bytes ++ l) = cc in
    let at_is : at ≡ (length a - length (bytes ++ l)) % unit form = place ∙ ap (place_behind form at (Some a)) moved in
    let long_a : length a ≡ length t + length (bytes ++ l) = ap (λ (m : List ℕ). length m) parts ∙ length-append t (bytes ++ l) in
    let long_b : length (bytes ++ l) ≡ length bytes + length l = length-append bytes l in
    let sum : length a - length (bytes ++ l) + n ≡ length a - length l = omega arith in
    ap (λ (p : ℕ). (p + n) % unit form) at_is ∙ place-add form (length a - length (bytes ++ l)) n ∙ ap (λ (p : ℕ). p % unit form) sum

-- the bytes of packets among those that are left
left-more : (form : Form) (at n : ℕ) (bytes : List ℕ) (new : Option (List ℕ)) → n ≡ length bytes
    → option_map (stripped_from form at) (before bytes new) ≡ before (stripped_from form at bytes) (option_map (stripped_from form ((at + n) % unit form)) new)
left-more form at n bytes None long = refl
left-more form at n bytes (Some l) long =
    ap Some (stripped-behind form at bytes l ∙ ap (λ (m : ℕ). stripped_from form at bytes ++ stripped_from form ((at + m) % unit form) l) (sym long))

pub view-more : (form : Form) (at n : ℕ) (first old new : SourceView) (bytes : List ℕ) → n ≡ length bytes → old ≡ unread bytes new
    → form_view form at first old ≡ unread (stripped_from form at bytes) (form_view form ((at + n) % unit form) first new)
view-more form at n first old new bytes long moved =
    ap (form_view form at first) moved
    ∙ ap (λ (o : Option (List ℕ)). let s : SourceView = record { left = o; faults = new.faults; origin = record { unit = unit form; bytes = first.left } } in s)
    (left-more form at n bytes new.left long)

-- a source whose last byte is read has no byte of a packet left
pub end-through : (form : Form) (at : ℕ) (left : Option (List ℕ)) → IfSome left (λ l. l ≡ []) → IfSome (option_map (stripped_from form at) left) (λ l. l ≡ [])
end-through form at None end = tt
end-through form at (Some l) end = ap (stripped_from form at) end ∙ stripped-nil form at

read-by : (form : Form) (at : ℕ) (file given : List ℕ) (left : Option (List ℕ)) → Some file ≡ before (came (Some file) left) left → at ≡ place_behind form at (Some file) left
    → Some (stripped form file) ≡ before given (option_map (stripped_from form at) left) → ReadOf form file given left
read-by form at file given None behind place told = absurd cc
read-by form at file given (Some rest) behind place told =
    let raw : List ℕ = take (length file - length rest) file in
    let parts : file ≡ raw ++ rest = cc in
    let given_is : stripped form file ≡ given ++ stripped_from form at rest = cc in
    let long : length file ≡ length raw + length rest = ap (λ (l : List ℕ). length l) parts ∙ length-append raw rest in
    let size : length file - length rest ≡ length raw = omega arith in
    let place_is : at ≡ length raw % unit form = place ∙ ap (λ (n : ℕ). n % unit form) size in
    let same : at % unit form ≡ length raw % unit form =
    ap (λ (n : ℕ). n % unit form) place_is ∙ place-in-unit form (length raw % unit form) (in-unit form (length raw)) in
    let both : stripped form raw ++ stripped_from form at rest ≡ given ++ stripped_from form at rest =
    ap (λ (l : List ℕ). stripped form raw ++ l) (stripped-place form at (length raw) rest same) ∙ sym (stripped-parts form raw rest) ∙ ap (stripped form) (sym parts) ∙ given_is in
    record {
      raw = raw;
      rest = rest;
      left_is = refl;
      file_is = parts;
      given_is = append_cancel_right (stripped form raw) given (stripped_from form at rest) both;
    }

-- what was read of a file through a source that leaves bytes out
pub read-of : (form : Form) (file given : List ℕ) (old new inner : SourceView) → old.left ≡ Some (stripped form file) → old.origin ≡ record { unit = unit form; bytes = Some file }
    → old.left ≡ before given new.left → old.origin ≡ new.origin → ReadsThrough new inner → ReadOf form file given inner.left
read-of form file given old new inner left origin moved same through =
    let units : unit form ≡ unit through.form = sym (ap (λ (o : Origin). o.unit) origin) ∙ ap (λ (o : Origin). o.unit) same ∙ through.unit_is in
    let told : new.origin.bytes ≡ Some file = sym (ap (λ (o : Origin). o.bytes) same) ∙ ap (λ (o : Origin). o.bytes) origin in
    let form_is : through.form ≡ form = sym (same-form form through.form units) in
    read-by form through.at file given inner.left
    (subst (λ (all : Option (List ℕ)). all ≡ before (came all inner.left) inner.left) told through.behind)
    (subst (λ (f : Form). through.at ≡ place_behind f through.at (Some file) inner.left) form_is
    (subst (λ (all : Option (List ℕ)). through.at ≡ place_behind through.form through.at all inner.left) told through.place))
    (subst (λ (f : Form). Some (stripped form file) ≡ before given (option_map (stripped_from f through.at) inner.left)) form_is
    (sym left ∙ moved ∙ ap (before given) through.left))

-- either way the origin is the same, and the bytes that were given were before those that are left
pub same-origin : (old new : SourceView) (given : List ℕ) → (old ≡ unread given new) ⊎ (read_failed old ≡ unread given new) → (old.left ≡ before given new.left) × (old.origin ≡ new.origin)
same-origin old new given (inl whole) = (ap (λ (s : SourceView). s.left) whole, ap (λ (s : SourceView). s.origin) whole)
same-origin old new given (inr failed) = (ap (λ (s : SourceView). s.left) failed, ap (λ (s : SourceView). s.origin) failed)

-- a source of which nothing was left has nothing left
pub emptied : (old new : Option (List ℕ)) (bytes : List ℕ) → old ≡ before bytes new → IfSome old (λ l. l ≡ []) → IfSome new (λ l. l ≡ [])
emptied old None bytes moved none = tt
emptied old (Some l) bytes moved none =
    let both : bytes ++ l ≡ [] = subst (λ (o : Option (List ℕ)). IfSome o (λ m. m ≡ [])) moved none in
    nil_from_length l (let size : length (bytes ++ l) ≡ 0 = ap (λ (m : List ℕ). length m) both in omega (arith, length-append bytes l))
