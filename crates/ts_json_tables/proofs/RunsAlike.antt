-- Runs that differ in bits that no table holds are read alike.
use Rattle.std.proofs.Common.{◌≡◌, ℕ, suc, ◌+◌, ◌<◌, Bool, List, [], ◌∷◌, length, get_or, refl, ap, ◌∙◌, arith}
use Rattle.std.specs.Prelude.{◌&&◌, Option, Some, None, Result, Ok, Err, nat_lt, if◌then◌else◌}
use Rattle.ts_fields.specs.Bits.{bits_of}
use Rattle.ts_section.specs.SectionFields.{body_of, current_of, extension_of, is_long, last_number_of, number_of, section_length_of, table_id_of, version_of}
use Rattle.ts_table_rows.specs.declared.table.TableHead.{TableHead}
use Rattle.ts_table_rows.specs.BodyReading.{Seen, read_body}
use Rattle.ts_table_rows.specs.RunReading as runs
use Rattle.ts_table_rows.specs.RunReading.{FirstBroken, broken_at, in_section, is_of, kept_head, read_by, read_run, read_section, read_sections, table_head, unseen}
use Rattle.ts_table_rows.specs.TablePages.{TablePage, has_id}
use Rattle.ts_table_rows.specs.TableValues.{BodyHolding, joined}
use Rattle.ts_table_rows.specs.declared.fault.TableRule.TheVariants.{Sections, TooLong}

-- what a table holds of a section is the same in another
pub record Alike (s t : List ℕ) : Type 0 where
  pub form : is_long s ≡ is_long t
  pub id : table_id_of s ≡ table_id_of t
  pub extension : extension_of s ≡ extension_of t
  pub version : version_of s ≡ version_of t
  pub current : current_of s ≡ current_of t
  pub number : number_of s ≡ number_of t
  pub last : last_number_of s ≡ last_number_of t
  pub size : section_length_of s ≡ section_length_of t
  pub body : body_of s ≡ body_of t

abbrev pub AllAlike : List (List ℕ) → List (List ℕ) → Type 0
AllAlike [] [] = Unit {0}
AllAlike [] (t ∷ ts) = ⊥
AllAlike (s ∷ ss) [] = ⊥
AllAlike (s ∷ ss) (t ∷ ts) = Alike s t × AllAlike ss ts

pub alike_by : (ss ts : List (List ℕ)) → length ss ≡ length ts → ((k : ℕ) → k < length ss → Alike (get_or ss k []) (get_or ts k [])) → AllAlike ss ts
alike_by [] [] count each = tt
alike_by [] (t ∷ ts) count each = absurd (omega (arith, count))
alike_by (s ∷ ss) [] count each = absurd (omega (arith, count))
alike_by (s ∷ ss) (t ∷ ts) count each = (each 0 (omega arith), alike_by ss ts (omega (arith, count)) (λ k inside. each (suc k) (omega (arith, inside))))

section_alike : (p : TablePage) (seen : Seen) (place : ℕ) (s t : List ℕ) → Alike s t → read_section p seen place s ≡ read_section p seen place t
unfolding read_section
section_alike p seen place s t same =
    ap (λ n. if nat_lt p.most n then broken_at place 1 TooLong else in_section place (length (body_of s)) (read_body p seen (bits_of (body_of s)))) same.size
    ∙ ap (λ b. if nat_lt p.most (section_length_of t) then broken_at place 1 TooLong else in_section place (length b) (read_body p seen (bits_of b))) same.body

-- what is read after a section
abbrev more_read : TablePage → ℕ → List (List ℕ) → Result (BodyHolding × Seen) FirstBroken → Result BodyHolding FirstBroken
more_read p place ss r = runs.◌>>=◌ r (λ x. runs.◌>>=◌ (read_sections p x.1 place ss) (λ more. Ok (joined x.0 more)))

more_alike : (p : TablePage) (place : ℕ) (ss ts : List (List ℕ)) (r : Result (BodyHolding × Seen) FirstBroken)
    → ((now : Seen) → read_sections p now place ss ≡ read_sections p now place ts) → more_read p place ss r ≡ more_read p place ts r
more_alike p place ss ts (Ok x) rest = ap (λ (q : Result BodyHolding FirstBroken). runs.◌>>=◌ q (λ more. Ok (joined x.0 more))) (rest x.1)
more_alike p place ss ts (Err fault) rest = refl

sections_alike : (p : TablePage) (seen : Seen) (place : ℕ) (ss ts : List (List ℕ)) → AllAlike ss ts → read_sections p seen place ss ≡ read_sections p seen place ts
unfolding read_sections
sections_alike p seen place [] [] same = refl
sections_alike p seen place [] (t ∷ ts) same = absurd same
sections_alike p seen place (s ∷ ss) [] same = absurd same
sections_alike p seen place (s ∷ ss) (t ∷ ts) same =
    ap (λ (r : Result (BodyHolding × Seen) FirstBroken). more_read p (place + 1) ss r) (section_alike p seen place s t same.0)
    ∙ more_alike p (place + 1) ss ts (read_section p seen place t) (λ now. sections_alike p now (place + 1) ss ts same.1)

abbrev head_made : ℕ → ℕ → ℕ → Bool → Option (ℕ × ℕ) → TableHead
head_made id extension version current numbers = record { table_id = id; extension = extension; version = version; current = current; numbers = numbers }

same_made : (a a' b b' c c' : ℕ) (d d' : Bool) (e e' : Option (ℕ × ℕ)) → a ≡ a' → b ≡ b' → c ≡ c' → d ≡ d' → e ≡ e' → head_made a b c d e ≡ head_made a' b' c' d' e'
same_made a a' b b' c c' d d' e e' p q r s t = cc

head_alike : (p : TablePage) (s t : List ℕ) → Alike s t → table_head p s ≡ table_head p t
head_alike p s t same =
    let kept : kept_head p s ≡ kept_head p t =
    same_made _ (table_id_of t) _ (extension_of t) _ (version_of t) _ (current_of t) _ (if p.keeps_numbers then Some (number_of t, last_number_of t) else None)
    same.id same.extension same.version same.current
    (ap (λ n. if p.keeps_numbers then Some (n, last_number_of s) else None) same.number ∙ ap (λ n. if p.keeps_numbers then Some (number_of t, n) else None) same.last) in
    ap (λ b. if b then Some (kept_head p s) else None) (ap (λ b. b && has_id p.ids (table_id_of s)) same.form ∙ ap (λ n. is_long t && has_id p.ids n) same.id)
    ∙ ap (λ h. if is_of p t then Some h else None) kept

same_lengths : (ss ts : List (List ℕ)) → AllAlike ss ts → length ss ≡ length ts
same_lengths [] [] same = refl
same_lengths [] (t ∷ ts) same = absurd same
same_lengths (s ∷ ss) [] same = absurd same
same_lengths (s ∷ ss) (t ∷ ts) same = ap suc (same_lengths ss ts same.1)

run_by : (p : TablePage) (o : Option TableHead) (s t : List ℕ) (ss ts : List (List ℕ)) → AllAlike (s ∷ ss) (t ∷ ts) → read_by p o s ss ≡ read_by p o t ts
run_by p None s t ss ts same = refl
run_by p (Some head) s t ss ts same =
    ap (λ n. if p.single && nat_lt 0 n then broken_at 0 0 Sections else (runs.◌>>=◌ (read_sections p unseen 0 (s ∷ ss)) (λ body. Ok (record { head = head; body = body })))) (same_lengths ss ts same.1)
    ∙ ap (λ (r : Result BodyHolding FirstBroken). if p.single && nat_lt 0 (length ts) then broken_at 0 0 Sections else (runs.◌>>=◌ r (λ body. Ok (record { head = head; body = body })))) (sections_alike p unseen 0 (s ∷ ss) (t ∷ ts) same)

pub runs_alike : (p : TablePage) (ss ts : List (List ℕ)) → AllAlike ss ts → read_run p ss ≡ read_run p ts
unfolding read_run
runs_alike p [] [] same = refl
runs_alike p [] (t ∷ ts) same = absurd same
runs_alike p (s ∷ ss) [] same = absurd same
runs_alike p (s ∷ ss) (t ∷ ts) same = ap (λ o. read_by p o s ss) (head_alike p s t same.0) ∙ run_by p (table_head p t) s t ss ts same
