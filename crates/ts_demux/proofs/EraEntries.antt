-- Entries of keys.
use Rattle.std.proofs.Common.{◌≡◌, ℕ, true, false, ◌==◌, List, [], Option, Some, None, sym, ◌∙◌, ap, Result, Ok, Err, IfOk, subst, true≢false}
use Rattle.std.specs.declared.alloc.AllocError.{AllocError}
use Rattle.ts_demux.specs.Tables.{completed}
use Rattle.std.proofs.lemmas.Bool.{eqb-true}
use Rattle.ts_demux.specs.Era.{IsEra, EntryStands, HasEra, EraStands, AllBelong, entry_goes_on}
use Rattle.ts_demux.specs.declared.era.Era.{Era}
use Rattle.ts_demux.proofs.Choice.{both_true}

pub last_of_entry : (o : Option Era) (era : Era) (version last : ℕ) → o ≡ Some era → HasEra o version last → era.last ≡ last
last_of_entry None era version last e h = absurd h
last_of_entry (Some other) era version last e h = (let same : other ≡ era = cc in sym (ap (λ t. t.last) same) ∙ h.1)

pub stands_of_entry : (o : Option Era) (era : Era) (sections : List (List ℕ)) → o ≡ Some era → EraStands o sections → IsEra era sections
stands_of_entry None era sections e h = absurd h
stands_of_entry (Some other) era sections e h = (let same : other ≡ era = cc in subst (λ t. IsEra t sections) same h)

pub table_of_entry :
    (o : Option Era) (era : Era) (s : List ℕ) (r : Result (Option (List (List ℕ))) AllocError) → o ≡ Some era →
    IfOk r (λ table. (sections : List (List ℕ)) → IsEra era sections → AllBelong s sections → table ≡ completed sections s) →
    IfOk r (λ table. (sections : List (List ℕ)) → EraStands o sections → AllBelong s sections → table ≡ completed sections s)
table_of_entry o era s (Ok table) e h = λ sections stands belong. h sections (stands_of_entry o era sections e stands) belong
table_of_entry o era s (Err error) e h = h

pub has_of_test : (o : Option Era) (version last : ℕ) → entry_goes_on o version last ≡ true → HasEra o version last
has_of_test None version last e = absurd (true≢false (sym e))
has_of_test (Some era) version last e =
    let f = both_true (era.version == version) (era.last == last) e in
    (eqb-true era.version version f.0, eqb-true era.last last f.1)

pub stands_of_test :
    (o : Option Era) (version last : ℕ) (sections : List (List ℕ)) → entry_goes_on o version last ≡ true →
    EntryStands o version last sections → EraStands o sections
stands_of_test None version last sections e h = absurd (true≢false (sym e))
stands_of_test (Some era) version last sections e h =
    let f = has_of_test (Some era) version last e in
    h.0 f.0 f.1

pub none_of_test :
    (o : Option Era) (version last : ℕ) (sections : List (List ℕ)) → entry_goes_on o version last ≡ false →
    EntryStands o version last sections → sections ≡ []
none_of_test None version last sections e h = h
none_of_test (Some era) version last sections e h = h.1 e

pub stands_of_fresh : (o : Option Era) (era : Era) (sections : List (List ℕ)) → o ≡ Some era → IsEra era [] → sections ≡ [] → EraStands o sections
stands_of_fresh o era sections e fresh none =
    subst (λ t. EraStands t sections) (sym e) (subst (IsEra era) (sym none) fresh)
