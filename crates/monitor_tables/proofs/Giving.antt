-- Lemmas on the sections that a reader gives.
use Rattle.std.proofs.Common.{◌≡◌, ℕ, List, [], ◌∷◌, ◌++◌, length, drop, ap, sym, subst, ◌∙◌, append-nil, append_assoc}
use Rattle.std.proofs.Math.Seq.{drop-append_seam}
use Rattle.ts_demux.specs.DemuxState.{DemuxState, StandsFor}
use Rattle.ts_demux.specs.SectionsOfPid.{sections_of_pid}
use Rattle.ts_demux.proofs.TablesAfter.{no_sections}
use Rattle.monitor_tables.specs.TableIds.{sections_with}

-- nothing was fed
pub read_none : (demux : DemuxState) (pid : ℕ) → StandsFor demux pid [] [] → StandsFor demux pid [] (sections_of_pid pid [])
read_none demux pid stands = subst (StandsFor demux pid []) (sym (no_sections pid)) stands

-- one more was given
pub given_more : (demux : DemuxState) (pid : ℕ) (fed given sections more : List (List ℕ)) (section : List ℕ) → more ≡ sections ++ section ∷ []
    → StandsFor demux pid fed ((given ++ sections) ++ section ∷ []) → StandsFor demux pid fed (given ++ more)
given_more demux pid fed given sections more section is stands =
    subst (StandsFor demux pid fed) (append_assoc given sections (section ∷ []) ∙ ap (λ (ss : List (List ℕ)). given ++ ss) (sym is)) stands

-- all were given
pub all_given : (demux : DemuxState) (pid : ℕ) (fed given : List (List ℕ)) → demux.waiting ≡ [] → StandsFor demux pid fed given → sections_of_pid pid fed ≡ given
all_given demux pid fed given none stands = stands.sections ∙ (ap (λ (ss : List (List ℕ)). given ++ ss) none ∙ append-nil given)

-- with a packet more
pub with_more : (pid : ℕ) (fed : List (List ℕ)) (packet : List ℕ) (sections : List (List ℕ))
    → sections_of_pid pid (fed ++ packet ∷ []) ≡ sections_of_pid pid fed ++ sections → sections ≡ sections_with pid fed packet
with_more pid fed packet sections is =
    sym (ap (drop (length (sections_of_pid pid fed))) is ∙ drop-append_seam (sections_of_pid pid fed) sections)
