-- A source that counts the bytes that are left out, from read to read.
use Rattle.std.proofs.Common.{◌≡◌, ℕ, suc, ◌+◌, ◌-◌, ◌<◌, ◌^◌, Bool, true, false, List, [], ◌∷◌, ◌++◌, Option, None, Some, length, min, option_to_list, refl, ap, sym, ◌∙◌, subst, arith, length-append}
use Rattle.std.specs.Prelude.{IfSome}
use Rattle.std.specs.Option.{option_map}
use Rattle.ts_outside.specs.Count.{count_end, raised}
use Rattle.ts_outside.specs.Told.{before, told_length}
use Rattle.ts_outside.specs.Source.{SourceView, Origin}
use Rattle.packet_forms.specs.declared.forms.Form.{Form}
use Rattle.packet_forms.specs.declared.forms.Form.TheVariants.{Ts}
use Rattle.packet_search.specs.Rule.{deciding_bytes}
use Rattle.search_source.specs.declared.gap.Gap.{Gap}
use Rattle.search_source.specs.declared.finder.Finder.{Finder}
use Rattle.search_source.specs.Gaps.{counted}
use Rattle.search_source.specs.Coming.{Coming, ungiven, found_in, coming}
use Rattle.search_source.specs.SearchView.{SearchView, search_view, plain, unsearched, search_failed, IsAtEnd, IsWithin}
use Rattle.switch_top.specs.PlayLists.{left_out_of}
use Rattle.switch_top.specs.LeftOut.{bytes_of_gaps, left_out_in, CountsLeftOut, LeavesOutRest}
use Rattle.switch_top.proofs.FoundPlays.{left-out-is, left-out-small, found-small}

gaps-both : (a b : List Gap) → bytes_of_gaps (a ++ b) ≡ bytes_of_gaps a + bytes_of_gaps b
unfolding bytes_of_gaps
gaps-both [] b = omega arith
gaps-both (gap ∷ a) b = (let f = gaps-both a b in omega (arith, f))

one-gap : (gap : Gap) → bytes_of_gaps (gap ∷ []) ≡ gap.bytes
unfolding bytes_of_gaps
one-gap gap = omega arith

no-gap : bytes_of_gaps [] ≡ 0
unfolding bytes_of_gaps
no-gap = refl

-- a count with the bytes of a gap
pub with-some : (count result : ℕ) (noted : Option Gap) (gap : Gap) → noted ≡ Some gap → result ≡ min (count + gap.bytes) count_end
    → result ≡ min (count + bytes_of_gaps (option_to_list noted)) count_end
with-some count result noted gap is sum =
    sum ∙ ap (λ n. min (count + n) count_end) (sym (one-gap gap)) ∙ ap (λ (o : Option Gap). min (count + bytes_of_gaps (option_to_list o)) count_end) (sym is)

pub with-none : (count : ℕ) (noted : Option Gap) → noted ≡ None → count < 2 ^ 64 → count ≡ min (count + bytes_of_gaps (option_to_list noted)) count_end
with-none count noted is small = alone ∙ ap (λ (o : Option Gap). min (count + bytes_of_gaps (option_to_list o)) count_end) (sym is)
  where
    alone : count ≡ min (count + bytes_of_gaps []) count_end
    alone = (let none = no-gap in omega (arith, none, small))

some-is : {T : Type 0} (a b : T) → Some a ≡ Some b → a ≡ b
some-is a b e = (let f = e in cc)

-- a count of which nothing is lost
full : (before more after all : ℕ) → all ≡ before + (more + after) → all < 2 ^ 63 → all ≡ min (before + more) count_end + after
full before more after all is small = omega (arith, is, small)

-- how many are left out of a known file
file-small : (file : List ℕ) → length file < 2 ^ 63 → left_out_in (found_in Ts file) < 2 ^ 63
file-small file small = (let a = left-out-is file small in let b = left-out-small file in omega (arith, a, b, small))

module _ (left_out : ℕ) (gone : List Gap) where
  by-coming : (bytes : Option (List ℕ)) (coming : Option Coming) (given : List ℕ) → told_length bytes < 2 ^ 63
      → option_map (λ file. left_out_in (found_in Ts file)) bytes ≡ option_map (λ c. left_out + left_out_in c) (option_map (ungiven given gone) coming)
      → option_map (λ file. left_out_in (found_in Ts file)) bytes ≡ option_map (λ c. min (left_out + bytes_of_gaps gone) count_end + left_out_in c) coming
  by-coming None None given small counts = refl
  by-coming None (Some c) given small counts = absurd cc
  by-coming (Some file) None given small counts = absurd cc
  by-coming (Some file) (Some c) given small counts =
      let is : left_out_in (found_in Ts file) ≡ left_out + (bytes_of_gaps (gone ++ c.gaps) + c.behind) = some-is _ _ counts in
      let both = gaps-both gone c.gaps in
      ap Some (full left_out (bytes_of_gaps gone) (left_out_in c) (left_out_in (found_in Ts file)) (omega (arith, is, both)) (file-small file small))

  -- what went is counted
  pub counts-more : (old new : SearchView) (given : List ℕ) → told_length old.origin.bytes < 2 ^ 63 → CountsLeftOut old left_out → old ≡ unsearched given gone new
      → CountsLeftOut new (min (left_out + bytes_of_gaps gone) count_end)
  counts-more old new given small counts is =
      let origin : new.origin ≡ old.origin = sym (ap (λ (v : SearchView). v.origin) is) in
      by-coming new.origin.bytes new.coming given (subst (λ (o : Origin). told_length o.bytes < 2 ^ 63) (sym origin) small)
      (subst (λ (v : SearchView). CountsLeftOut v left_out) is counts)

-- at the end
pub rest-left-out : (finder : Finder) (view : SearchView) → IsAtEnd finder view.coming → LeavesOutRest view (bytes_of_gaps (option_to_list finder.noted) + counted finder.left)
rest-left-out finder view end = by-coming view.coming end
  where
    by-coming : (coming : Option Coming) → IsAtEnd finder coming → option_map left_out_in coming ≡ option_map (λ (c : Coming). bytes_of_gaps (option_to_list finder.noted) + counted finder.left) coming
    by-coming None end = refl
    by-coming (Some c) end = ap Some (ap left_out_in end)

-- so all of it was counted
pub all-counted : (view : SearchView) (left_out noted behind result : ℕ) → told_length view.origin.bytes < 2 ^ 63 → CountsLeftOut view left_out → LeavesOutRest view (noted + min behind count_end)
    → result ≡ min (min (left_out + noted) count_end + behind) count_end → IfSome view.origin.bytes (λ file. result ≡ left_out_of file)
all-counted view left_out noted behind result small counts rest is = by-told view.origin.bytes view.coming small counts rest
  where
    sum-is : (all : ℕ) → all < 2 ^ 63 → all ≡ left_out + (noted + min behind count_end) → min (min (left_out + noted) count_end + behind) count_end ≡ all
    sum-is all small e = omega (arith, e, small)

    by-told : (bytes : Option (List ℕ)) (coming : Option Coming) → told_length bytes < 2 ^ 63
        → option_map (λ file. left_out_in (found_in Ts file)) bytes ≡ option_map (λ c. left_out + left_out_in c) coming
        → option_map left_out_in coming ≡ option_map (λ (c : Coming). noted + min behind count_end) coming
        → IfSome bytes (λ file. result ≡ left_out_of file)
    by-told None coming small counts rest = tt
    by-told (Some file) None small counts rest = absurd cc
    by-told (Some file) (Some c) small counts rest =
        let all : left_out_in (found_in Ts file) ≡ left_out + left_out_in c = some-is _ _ counts in
        let of_c : left_out_in c ≡ noted + min behind count_end = some-is _ _ rest in
        is ∙ sum-is (left_out_in (found_in Ts file)) (file-small file small) (all ∙ ap (λ k. left_out + k) of_c) ∙ left-out-is file small

-- ---- what is seen of it as of any source

-- before the first read
pub first-counts : (file : Option (List ℕ)) (coming : Option Coming) → coming ≡ option_map (found_in Ts) file
    → option_map (λ bytes. left_out_in (found_in Ts bytes)) file ≡ option_map (λ c. 0 + left_out_in c) coming
first-counts None comes is = ap (option_map (λ (c : Coming). 0 + left_out_in c)) (sym is)
first-counts (Some file) comes is =
    let none_more : left_out_in (found_in Ts file) ≡ 0 + left_out_in (found_in Ts file) = omega arith in
    ap Some none_more ∙ ap (option_map (λ (c : Coming). 0 + left_out_in c)) (sym is)

pub first-few : (file : Option (List ℕ)) (coming : Option Coming) → coming ≡ option_map (found_in Ts) file → told_length file < 2 ^ 63
    → told_length (option_map (λ (c : Coming). c.bytes) coming) < 2 ^ 63
first-few file coming is small = subst (λ (o : Option Coming). told_length (option_map (λ (c : Coming). c.bytes) o) < 2 ^ 63) (sym is) (by-file file small)
  where
    by-file : (file : Option (List ℕ)) → told_length file < 2 ^ 63 → told_length (option_map (λ (c : Coming). c.bytes) (option_map (found_in Ts) file)) < 2 ^ 63
    by-file None small = small
    by-file (Some bytes) small = (let f = found-small bytes small in omega (arith, f, small))

pub first-left : (file : Option (List ℕ)) (coming : Option Coming) → coming ≡ option_map (found_in Ts) file → option_map (λ (c : Coming). c.bytes) coming ≡ option_map (λ bytes. (found_in Ts bytes).bytes) file
first-left file coming is = ap (option_map (λ (c : Coming). c.bytes)) is ∙ by-file file
  where
    by-file : (file : Option (List ℕ)) → option_map (λ (c : Coming). c.bytes) (option_map (found_in Ts) file) ≡ option_map (λ bytes. (found_in Ts bytes).bytes) file
    by-file None = refl
    by-file (Some bytes) = refl

left-given : (given : List ℕ) (gone : List Gap) (coming : Option Coming) → option_map (λ (c : Coming). c.bytes) (option_map (ungiven given gone) coming) ≡ before given (option_map (λ (c : Coming). c.bytes) coming)
left-given given gone None = refl
left-given given gone (Some c) = refl

-- bytes are given
pub plain-given : (old new : SearchView) (given : List ℕ) (gone : List Gap) → old ≡ unsearched given gone new → plain old ≡ record (plain new) { left = before given (plain new).left }
plain-given old new given gone is =
    ap plain is ∙ ap (λ (l : Option (List ℕ)). let s : SourceView = record { left = l; faults = new.faults; origin = new.origin } in s) (left-given given gone new.coming)

before-none : (left : Option (List ℕ)) → before [] left ≡ left
before-none None = refl
before-none (Some l) = refl

-- or the read failed
pub plain-failed : (old new : SearchView) (gone : List Gap) → search_failed old ≡ unsearched [] gone new → plain new ≡ record (plain old) { faults = raised old.faults }
plain-failed old new gone is =
    ap (λ (l : Option (List ℕ)). let s : SourceView = record { left = l; faults = new.faults; origin = new.origin } in s) (sym (left-given [] gone new.coming ∙ before-none _))
    ∙ sym (ap plain is)

told-before : (given : List ℕ) (left : Option (List ℕ)) (n : ℕ) → told_length (before given left) < n → told_length left < n
told-before given None n few = few
told-before given (Some l) n few = (let f = length-append given l in omega (arith, f, few))

pub few-more : (old new : SearchView) (given : List ℕ) (gone : List Gap) (n : ℕ) → old ≡ unsearched given gone new → told_length (plain old).left < n → told_length (plain new).left < n
few-more old new given gone n is few =
    told-before given (plain new).left n (subst (λ (s : SourceView). told_length s.left < n) (plain-given old new given gone is) few)

-- ---- for the calls

-- what holds of one that was made of a file's own source
pub record IsNew (finder : Finder) (source first now : SourceView) : Type 0 where
  pub counts : CountsLeftOut (search_view finder first now) 0
  pub small : told_length first.left < 2 ^ 63
  pub few : told_length (plain (search_view finder first now)).left < 2 ^ 63
  pub seen : plain (search_view finder first now)
      ≡ record { left = option_map (λ file. (found_in Ts file).bytes) source.left; faults = source.faults; origin = record { unit = deciding_bytes Ts; bytes = source.left } }

pub is-new : (finder : Finder) (source first now : SourceView) → finder.form ≡ Ts → plain (search_view finder first now) ≡ plain (search_view finder source source)
    → (search_view finder source source).coming ≡ option_map (found_in Ts) source.left → told_length source.left < 2 ^ 63 → now ≡ source → IsNew finder source first now
is-new finder source first now form same found small is =
    let bytes : first.left ≡ source.left = ap (λ (s : SourceView). s.origin.bytes) same in
    let comes : option_map (coming finder) now.left ≡ option_map (found_in Ts) source.left = ap (λ (s : SourceView). option_map (coming finder) s.left) is ∙ found in
    record {
      counts = subst (λ (o : Option (List ℕ)). option_map (λ file. left_out_in (found_in Ts file)) o ≡ option_map (λ c. 0 + left_out_in c) (option_map (coming finder) now.left)) (sym bytes)
          (first-counts source.left (option_map (coming finder) now.left) comes);
      small = subst (λ (o : Option (List ℕ)). told_length o < 2 ^ 63) (sym bytes) small;
      few = first-few source.left (option_map (coming finder) now.left) comes small;
      seen = same
          ∙ ap (λ (l : Option (List ℕ)). let s : SourceView = record { left = l; faults = source.faults; origin = record { unit = deciding_bytes finder.form; bytes = source.left } } in s)
          (first-left source.left (option_map (coming finder) source.left) found)
          ∙ ap (λ (f : Form). let s : SourceView = record { left = option_map (λ file. (found_in Ts file).bytes) source.left; faults = source.faults; origin = record { unit = deciding_bytes f; bytes = source.left } } in s) form;
    }

-- after a read
pub record IsAfterRead (finder : Finder) (first now : SourceView) (left_out : ℕ) (ended : Bool) : Type 0 where
  pub counts : CountsLeftOut (search_view finder first now) left_out
  pub at_end : ended ≡ true → LeavesOutRest (search_view finder first now) (bytes_of_gaps (option_to_list finder.noted) + counted finder.left)
  pub small : told_length first.left < 2 ^ 63
  pub few : told_length (plain (search_view finder first now)).left < 2 ^ 63

-- the same file is at hand
pub same-file : (old new : SearchView) (given : List ℕ) (gone : List Gap) → old ≡ unsearched given gone new → new.origin.bytes ≡ old.origin.bytes
same-file old new given gone is = sym (ap (λ (v : SearchView). v.origin.bytes) is)

-- how the loop goes on: each read of some bytes brings it nearer to the end
pub within-more : (old new : SearchView) (given : List ℕ) (gone : List Gap) (reads : ℕ) (ended : Bool) → old ≡ unsearched given gone new → (length given ≡ 0 → ended ≡ true)
    → IsWithin (plain old).left reads false → IsWithin (plain new).left (suc reads) ended
within-more old new given gone reads ended is end within =
    by-left given (plain new).left ended end (subst (λ (s : SourceView). IsWithin s.left reads false) (plain-given old new given gone is) within)
  where
    by-left : (given : List ℕ) (left : Option (List ℕ)) (ended : Bool) → (length given ≡ 0 → ended ≡ true) → IsWithin (before given left) reads false → IsWithin left (suc reads) ended
    by-left given None ended end within = tt
    by-left given (Some l) true end within = (let long = length-append given l in omega (arith, long, within))
    by-left [] (Some l) false end within = absurd (let bad : false ≡ true = end refl in cc)
    by-left (x ∷ given) (Some l) false end within = (let long = length-append given l in omega (arith, long, within))

-- so it comes to the end of a known file before so many reads
pub never-over : (view : SearchView) (left_out n : ℕ) (ended : Bool) → CountsLeftOut view left_out → IsWithin (plain view).left (2 ^ 64 - 1) ended → IfSome view.origin.bytes (λ file. n ≡ left_out_of file)
never-over view left_out n ended counts within = by-told view.origin.bytes view.coming counts within
  where
    by-told : (bytes : Option (List ℕ)) (coming : Option Coming) → option_map (λ file. left_out_in (found_in Ts file)) bytes ≡ option_map (λ c. left_out + left_out_in c) coming
        → IsWithin (option_map (λ (c : Coming). c.bytes) coming) (2 ^ 64 - 1) ended → IfSome bytes (λ file. n ≡ left_out_of file)
    by-told None coming counts within = tt
    by-told (Some file) None counts within = absurd cc
    by-told (Some file) (Some c) counts within = absurd (too-many ended within)
      where
        too-many : (ended : Bool) → IsWithin (Some c.bytes) (2 ^ 64 - 1) ended → ⊥
        too-many true within = omega (arith, within)
        too-many false within = omega (arith, within)

pub first-within : (left : Option (List ℕ)) (ended : Bool) → told_length left < 2 ^ 63 → IsWithin left 0 ended
first-within None ended few = tt
first-within (Some l) true few = omega (arith, few)
first-within (Some l) false few = omega (arith, few)

pub after-read : (old : SearchView) (finder : Finder) (first now : SourceView) (left_out result : ℕ) (ended : Bool) (given : List ℕ) (gone : List Gap)
    → CountsLeftOut old left_out → told_length old.origin.bytes < 2 ^ 63 → told_length (plain old).left < 2 ^ 63 → old ≡ unsearched given gone (search_view finder first now)
    → result ≡ min (left_out + bytes_of_gaps gone) count_end → (ended ≡ true → IsAtEnd finder (search_view finder first now).coming) → IsAfterRead finder first now result ended
after-read old finder first now left_out result ended given gone counts small few is sum end = record {
  counts = subst (CountsLeftOut (search_view finder first now)) (sym sum) (counts-more left_out gone old (search_view finder first now) given small counts is);
  at_end = λ e. rest-left-out finder (search_view finder first now) (end e);
  small = subst (λ (o : Option (List ℕ)). told_length o < 2 ^ 63) (sym (same-file old (search_view finder first now) given gone is)) small;
  few = few-more old (search_view finder first now) given gone (2 ^ 63) is few;
}
