-- The packets of some sections, one packet after another.
use Rattle.std.proofs.Common.{◌≡◌, ℕ, ◌+◌, ◌%◌, ◌<◌, ◌≤◌, true, false, zero, suc, List, [], ◌∷◌, ◌++◌, length, refl, sym, ◌∙◌, ap, arith, append-nil, append_assoc, subst}
use Rattle.std.specs.List.{AllByRecursion}
use Rattle.ts_section.specs.ValidSection.{IsSection}
use Rattle.ts_packetize.specs.Packing.{joined, next_step, is_done, pack}
use Rattle.ts_packetize.specs.Packets.{packets_of, packet_with, counted_from}
use Rattle.ts_packetize.specs.Begun.{begun_by}
use Rattle.ts_packetize.proofs.Counting.{counted-push}
use Rattle.ts_packetize.proofs.Laying.{done_says, pack-done, pack-next, step-sections, step-shorter}
use Rattle.ts_packetize.specs.Packing.{goes_on_alone}

-- the packets so far, and those of what is left, are those of the sections
pub record Packs (pid : ℕ) (sections packets : List (List ℕ)) (rest : List ℕ) (ss : List (List ℕ)) : Type 0 where
  pub bound : ℕ
  pub front : List (List ℕ)
  pub fits : length rest + length (joined ss) ≤ bound
  pub so_far : packets ++ counted_from pid (length packets % 16) (pack bound rest ss) ≡ packets_of pid sections
  pub split : sections ≡ front ++ ss
  pub valid : AllByRecursion (λ s. IsSection s) front

pub packs-first : (pid : ℕ) (sections packets : List (List ℕ)) (rest : List ℕ) → packets ≡ [] → rest ≡ [] → Packs pid sections packets rest sections
unfolding packets_of
packs-first pid sections packets rest e f =
    record {
      bound = length (joined sections);
      front = [];
      fits = omega (arith, ap length f);
      so_far =
          ap (λ t. t ++ counted_from pid (length t % 16) (pack (length (joined sections)) rest sections)) e
          ∙ ap (λ t. counted_from pid 0 (pack (length (joined sections)) t sections)) f;
      split = refl;
      valid = tt;
    }

all_joined : (xs ys : List (List ℕ)) → AllByRecursion (λ s. IsSection s) xs → AllByRecursion (λ s. IsSection s) ys → AllByRecursion (λ s. IsSection s) (xs ++ ys)
all_joined [] ys a b = b
all_joined (x ∷ xs) ys a b = (a.0, all_joined xs ys a.1 b)

packs-bound :
    (pid bound : ℕ) (sections front old new : List (List ℕ)) (rest : List ℕ) (ss : List (List ℕ)) →
    length rest + length (joined ss) ≤ bound → old ++ counted_from pid (length old % 16) (pack bound rest ss) ≡ packets_of pid sections →
    sections ≡ front ++ ss → AllByRecursion (λ s. IsSection s) front → is_done rest ss ≡ false → AllByRecursion (λ s. IsSection s) (begun_by rest ss) →
    new ≡ old ++ packet_with pid (length old % 16) (next_step rest ss).load ∷ [] →
    Packs pid sections new (next_step rest ss).rest (next_step rest ss).sections
packs-bound pid zero sections front old new rest ss fits so_far split valid d all e =
    absurd (omega (arith, fits, step-shorter rest ss (goes_on_alone rest ss) refl d all))
packs-bound pid (suc n) sections front old new rest ss fits so_far split valid d all e =
    let step = next_step rest ss in
    record {
      bound = n;
      front = front ++ begun_by rest ss;
      fits = omega (arith, fits, step-shorter rest ss (goes_on_alone rest ss) refl d all);
      so_far =
          counted-push pid old new step.load (pack n step.rest step.sections) e
          ∙ ap (λ t. old ++ counted_from pid (length old % 16) t) (sym (pack-next n rest ss d))
          ∙ so_far;
      split = split ∙ ap (λ t. front ++ t) (step-sections rest ss (goes_on_alone rest ss) refl) ∙ sym (append_assoc front (begun_by rest ss) step.sections);
      valid = all_joined front (begun_by rest ss) valid all;
    }

pub packs-more :
    (pid counter : ℕ) (sections old new : List (List ℕ)) (rest behind p : List ℕ) (ss others : List (List ℕ)) →
    Packs pid sections old rest ss → is_done rest ss ≡ false → AllByRecursion (λ s. IsSection s) (begun_by rest ss) →
    counter ≡ length old % 16 → p ≡ packet_with pid counter (next_step rest ss).load → new ≡ old ++ p ∷ [] →
    behind ≡ (next_step rest ss).rest → others ≡ (next_step rest ss).sections → Packs pid sections new behind others
packs-more pid counter sections old new rest behind p ss others packs d all c made pushed b o =
    let e : new ≡ old ++ packet_with pid (length old % 16) (next_step rest ss).load ∷ [] =
    pushed ∙ ap (λ t. old ++ t ∷ []) (made ∙ ap (λ n. packet_with pid n (next_step rest ss).load) c) in
    subst (λ t. Packs pid sections new t others) (sym b)
    (subst (λ t. Packs pid sections new (next_step rest ss).rest t) (sym o)
    (packs-bound pid packs.bound sections packs.front old new rest ss packs.fits packs.so_far packs.split packs.valid d all e))

pub packs-shorter :
    (rest behind : List ℕ) (ss others : List (List ℕ)) → is_done rest ss ≡ false → AllByRecursion (λ s. IsSection s) (begun_by rest ss) →
    behind ≡ (next_step rest ss).rest → others ≡ (next_step rest ss).sections → length behind + length (joined others) < length rest + length (joined ss)
packs-shorter rest behind ss others d all b o = omega (arith, step-shorter rest ss (goes_on_alone rest ss) refl d all, ap length b, ap (λ t. length (joined t)) o)

pub packs-done :
    (pid : ℕ) (sections packets : List (List ℕ)) (rest : List ℕ) (ss : List (List ℕ)) → Packs pid sections packets rest ss → is_done rest ss ≡ true →
    (packets ≡ packets_of pid sections) × AllByRecursion (λ s. IsSection s) sections
packs-done pid sections packets rest ss packs d = (
  sym (append-nil packets) ∙ ap (λ t. packets ++ counted_from pid (length packets % 16) t) (sym (pack-done packs.bound rest ss d)) ∙ packs.so_far,
  subst (AllByRecursion (λ s. IsSection s)) (sym (packs.split ∙ ap (λ t. packs.front ++ t) (done_says rest ss d).1 ∙ append-nil packs.front)) packs.valid,
)
