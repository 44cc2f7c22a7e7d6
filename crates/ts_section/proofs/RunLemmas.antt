-- When sections are a whole run, and where they stop being one.
use Rattle.std.proofs.Common.{◌≡◌, ℕ, ◌+◌, ◌<◌, List, [], ◌∷◌, length, get_or, take, true, false, refl, sym, ◌∙◌, subst, inl, inr, arith, suc, zero, add-one}
use Rattle.std.proofs.lemmas.Bool.{cases_Bool, false≢true}
use Rattle.std.proofs.lemmas.List.{get_or-take, length-take}
use Rattle.ts_section.specs.SectionFields.{is_long, head_fields, last_number_of}
use Rattle.ts_section.specs.ValidSection.{IsSection}
use Rattle.ts_section.specs.SectionRun.{stands_alone, IsMember, SharesHead, AllMembers, BeginsRun, IsTableRun, IsRunFault}
use Rattle.ts_section.specs.declared.long_head.LongHead.{LongHead}

-- the sections below a place are members
abbrev pub MembersBelow : List ℕ → List (List ℕ) → ℕ → Type 0
MembersBelow first ss n = (k : ℕ) → k < n → IsMember first k (get_or ss k [])

begins_front : (s : List ℕ) (rest : List (List ℕ)) (n : ℕ) → MembersBelow s (s ∷ rest) n → BeginsRun (take n (s ∷ rest))
begins_front s rest zero members = tt
begins_front s rest (suc n) members =
    inr (λ k inside.
    let early : k < suc n = omega (arith, length-take n rest) in
    subst (IsMember s k) (sym (get_or-take (suc n) (s ∷ rest) k [] early)) (members k early))

stops_at : (s : List ℕ) (rest : List (List ℕ)) (place : ℕ) → stands_alone s ≡ false → place < length (s ∷ rest) → (IsMember s place (get_or (s ∷ rest) place []) → ⊥) → BeginsRun (take (place + 1) (s ∷ rest)) → ⊥
stops_at s rest place together inside other begins =
    let front : BeginsRun (take (suc place) (s ∷ rest)) = subst (λ n. BeginsRun (take n (s ∷ rest))) (add-one place) begins in
    elim front [
      | inl alone ↦ false≢true (sym together ∙ alone.0)
      | inr members ↦
          let early : place < length (take (suc place) (s ∷ rest)) = omega (arith, length-take place rest) in
          let same : get_or (take (suc place) (s ∷ rest)) place [] ≡ get_or (s ∷ rest) place [] = get_or-take (suc place) (s ∷ rest) place [] (omega arith) in
          other (subst (IsMember s place) same (members place early))
    ]

pub whole_members : (s : List ℕ) (rest : List (List ℕ)) → stands_alone s ≡ false → IsTableRun (s ∷ rest) → AllMembers s (s ∷ rest) × (length (s ∷ rest) ≡ last_number_of s + 1)
whole_members s rest together whole =
    elim whole [ inl alone ↦ absurd (false≢true (sym together ∙ alone.0)) | inr members ↦ members ]

-- a section that is alone is the whole run
pub alone_only : (s : List ℕ) (rest : List (List ℕ)) → IsTableRun (s ∷ rest) → stands_alone s ≡ true → rest ≡ []
alone_only s rest whole alone =
    elim whole [
      | inl single ↦ single.1
      | inr members ↦ absurd (false≢true (sym (members.0 0 (omega arith)).together ∙ alone))
    ]

-- a section that is no member
pub fault_at : (ss : List (List ℕ)) (place : ℕ) → stands_alone (get_or ss 0 []) ≡ false → place < length ss → MembersBelow (get_or ss 0 []) ss place → (IsMember (get_or ss 0 []) place (get_or ss place []) → ⊥) → IsRunFault ss place
fault_at [] place together inside members other = absurd (omega arith)
fault_at (s ∷ rest) place together inside members other =
    record {
      not_whole = λ whole. other ((whole_members s rest together whole).0 place inside);
      within = omega arith;
      begins = begins_front s rest place members;
      stops = λ more. stops_at s rest place together inside other;
    }

-- sections that are missing
pub fault_wanting : (ss : List (List ℕ)) → stands_alone (get_or ss 0 []) ≡ false → 0 < length ss → length ss < last_number_of (get_or ss 0 []) + 1 → MembersBelow (get_or ss 0 []) ss (length ss) → IsRunFault ss (length ss)
fault_wanting [] together some few members = absurd (omega arith)
fault_wanting (s ∷ rest) together some few members =
    record {
      not_whole = λ whole. let all : length (s ∷ rest) ≡ last_number_of s + 1 = (whole_members s rest together whole).1 in omega arith;
      within = omega arith;
      begins = begins_front s rest (length (s ∷ rest)) members;
      stops = λ more. absurd (omega arith);
    }

-- one section more after one that is a table by itself
pub fault_behind : (ss : List (List ℕ)) → stands_alone (get_or ss 0 []) ≡ true → 1 < length ss → IsRunFault ss 1
fault_behind [] alone many = absurd (omega arith)
fault_behind (s ∷ []) alone many = absurd (omega arith)
fault_behind (s ∷ r ∷ rest) alone many =
    record {
      not_whole = λ whole. elim whole [
        | inl single ↦ cc (single.1)
        | inr members ↦ false≢true (sym (members.0 0 (omega arith)).together ∙ alone)
      ];
      within = omega arith;
      begins = inl (alone, refl);
      stops = λ more begins. elim begins [
        | inl single ↦ cc (single.1)
        | inr members ↦ false≢true (sym (members 0 (omega arith)).together ∙ alone)
      ];
    }

pub whole_numbered : (ss : List (List ℕ)) → 0 < length ss → length ss ≡ last_number_of (get_or ss 0 []) + 1 → MembersBelow (get_or ss 0 []) ss (length ss) → IsTableRun ss
whole_numbered [] some all members = absurd (omega arith)
whole_numbered (s ∷ rest) some all members = inr (members, all)

-- a section that is no table by itself is of the long form
pub together_long : (s : List ℕ) → stands_alone s ≡ false → is_long s ≡ true
together_long s together =
    elim (cases_Bool (is_long s)) [ inl long ↦ long | inr short ↦ absurd (false≢true (sym together ∙ rw short refl)) ]

-- a member by the first section's head
pub member_from_head : (first s : List ℕ) (head : LongHead) (place : ℕ) → head ≡ head_fields first → IsSection s → SharesHead head place s → IsMember first place s
member_from_head first s head place head_is valid shares =
    let moved : SharesHead (head_fields first) place s = subst (λ h. SharesHead h place s) head_is shares in
    record {
      together = moved.together;
      same_id = moved.same_id;
      same_extension = moved.same_extension;
      same_version = moved.same_version;
      same_current = moved.same_current;
      same_last = moved.same_last;
      numbered = moved.numbered;
      counted = omega (arith, moved.numbered, moved.same_last, (valid.long (together_long s moved.together)).numbers);
    }

pub head_from_member : (first s : List ℕ) (head : LongHead) (place : ℕ) → head ≡ head_fields first → IsMember first place s → SharesHead head place s
head_from_member first s head place head_is member =
    subst (λ h. SharesHead h place s) (sym head_is) (record {
      together = member.together;
      same_id = member.same_id;
      same_extension = member.same_extension;
      same_version = member.same_version;
      same_current = member.same_current;
      same_last = member.same_last;
      numbered = member.numbered;
    })
