-- Worked rows, computed on the definitions.
use Rattle.std.proofs.Common.{◌≡◌, ℕ, ◌==◌, true, false, [], ◌∷◌, map, None, Some, refl}
use Rattle.std.specs.Prelude.{List, Option, is_some, if◌then◌else◌}
use Rattle.ts_bit_rows.specs.BitRow.{bit_of, field}
use Rattle.ts_table_rows.specs.TableValues.{TableHolding}
use Rattle.plug_psi.specs.Edits.{away, same}
use Rattle.plug_psi.proofs.RowTables.{item_of, table_of}
use Rattle.plug_service.specs.Actions.{action_of}
use Rattle.plug_service.specs.Presence.{is_any_there}
use Rattle.plug_service.specs.ServiceEdits.{carried_if_one, entry_stays, kept_eit, other_change, others_eit, stream_of}
use Rattle.named_services.specs.ServiceLists.{each_once}
use Rattle.plug_service.specs.declared.kept.Kept.{Kept}
use Rattle.plug_service.specs.declared.way.Way.TheVariants.{Keep, Remove}
use Rattle.plug_service.specs.declared.action.Action.TheVariants.{EditPat, EditSdt, EditNit, EditEit, EditPmt, Pass, Drop}

-- service 1 on PID 4096 with PIDs 256, 257 and 20, service 2 on PID 4097 with PIDs 256 and 258; the network PID is 16
abbrev pub pat_row : Option TableHolding
pat_row = Some (table_of 0x00 1 [] [] (item_of 0 16 [] ∷ item_of 1 4096 [] ∷ item_of 2 4097 [] ∷ []))

abbrev pub pmts_row : ℕ → Option TableHolding
pmts_row service =
    if service == 1 then Some (table_of 0x02 1 (256 ∷ []) [] (item_of 2 256 [] ∷ item_of 3 257 [] ∷ item_of 3 20 [] ∷ []))
    else (if service == 2 then Some (table_of 0x02 2 (256 ∷ []) [] (item_of 2 258 [] ∷ [])) else None)

-- nothing else is kept, or all
abbrev pub nothing_else : Kept
nothing_else = record { nit = false; bat = false; eit = false; time = false }

abbrev pub all_else : Kept
all_else = record { nit = true; bat = true; eit = true; time = true }

-- where service 1 is kept
kept-row : map (action_of (Keep nothing_else) (1 ∷ []) pat_row pmts_row) (0 ∷ 17 ∷ 4096 ∷ 4097 ∷ 256 ∷ 257 ∷ 258 ∷ 20 ∷ 16 ∷ 8191 ∷ [])
    ≡ EditPat ∷ EditSdt ∷ EditPmt ∷ Drop ∷ Pass ∷ Pass ∷ Drop ∷ Pass ∷ Drop ∷ Drop ∷ []
kept-row = refl

-- with all other tables: of its own PIDs 20 is none of a component now
kept-with-others-row : map (action_of (Keep all_else) (1 ∷ []) pat_row pmts_row) (0 ∷ 16 ∷ 17 ∷ 18 ∷ 19 ∷ 20 ∷ 21 ∷ 4096 ∷ 4097 ∷ 258 ∷ [])
    ≡ EditPat ∷ Pass ∷ EditSdt ∷ EditEit ∷ Drop ∷ Pass ∷ Drop ∷ EditPmt ∷ Drop ∷ Drop ∷ []
kept-with-others-row = refl

-- EIT sections of services 1 and 3, as they are; those of another service, of another stream, and of no EIT go. The bytes are those
-- that say what a section is: table_id, long form, service_id, current
abbrev pub head_row : ℕ → ℕ → List ℕ
head_row table_id service = table_id ∷ 0xB0 ∷ 9 ∷ 0 ∷ service ∷ 0xC1 ∷ 0 ∷ 0 ∷ 0 ∷ 0 ∷ 0 ∷ 0 ∷ []

given-row : map (λ section. is_some (kept_eit (1 ∷ 3 ∷ []) section))
    (head_row 0x4E 1 ∷ head_row 0x50 3 ∷ head_row 0x5F 3 ∷ head_row 0x4E 2 ∷ head_row 0x4F 1 ∷ head_row 0x60 1 ∷ head_row 0x42 1 ∷ [])
    ≡ true ∷ true ∷ true ∷ false ∷ false ∷ false ∷ false ∷ []
unfolding bit_of field
given-row = refl

-- on PID 17 a BAT stays as it is where BATs are kept, and an SDT of another stream goes
bat-row : map (λ table_id. other_change all_else (head_row table_id 1 ∷ [])) (0x4A ∷ 0x46 ∷ 0x42 ∷ []) ≡ same ∷ away ∷ away ∷ []
unfolding bit_of field
bat-row = refl

no-bat-row : other_change nothing_else (head_row 0x4A 1 ∷ []) ≡ away
no-bat-row = refl

-- where it is removed
removed-row : map (action_of (Remove false) (1 ∷ []) pat_row pmts_row) (0 ∷ 17 ∷ 4096 ∷ 4097 ∷ 256 ∷ 257 ∷ 258 ∷ 20 ∷ 16 ∷ 8191 ∷ [])
    ≡ EditPat ∷ EditSdt ∷ Drop ∷ Pass ∷ Pass ∷ Drop ∷ Pass ∷ Pass ∷ Pass ∷ Pass ∷ []
removed-row = refl

-- and where it is removed everywhere
everywhere-row : map (action_of (Remove true) (1 ∷ []) pat_row pmts_row) (0 ∷ 17 ∷ 4096 ∷ 4097 ∷ 256 ∷ 257 ∷ 258 ∷ 20 ∷ 16 ∷ 18 ∷ 19 ∷ 8191 ∷ [])
    ≡ EditPat ∷ EditSdt ∷ Drop ∷ Pass ∷ Pass ∷ Drop ∷ Pass ∷ Pass ∷ EditNit ∷ EditEit ∷ Pass ∷ Pass ∷ []
everywhere-row = refl

-- its EIT sections go, and all other sections are given
others-given-row : map (λ section. is_some (others_eit (1 ∷ 3 ∷ []) section))
    (head_row 0x4E 1 ∷ head_row 0x50 3 ∷ head_row 0x5F 3 ∷ head_row 0x4E 2 ∷ head_row 0x4F 1 ∷ head_row 0x60 1 ∷ head_row 0x42 1 ∷ [])
    ≡ false ∷ false ∷ false ∷ true ∷ true ∷ true ∷ true ∷ []
unfolding bit_of field
others-given-row = refl

-- the transport stream is that of the PAT
stream-row : map stream_of (pat_row ∷ None ∷ []) ≡ Some 1 ∷ None ∷ []
stream-row = refl

-- two entries on one PID: what is left of it is shared
shared-row : map (action_of (Remove false) (1 ∷ []) (Some (table_of 0x00 1 [] [] (item_of 1 100 [] ∷ item_of 3 100 [] ∷ []))) (λ _. None)) (100 ∷ 101 ∷ []) ≡ Pass ∷ Pass ∷ []
shared-row = refl

-- both are kept, and one that the PAT lacks
two-kept-row : map (action_of (Keep nothing_else) (2 ∷ 9 ∷ 1 ∷ []) pat_row pmts_row) (0 ∷ 17 ∷ 4096 ∷ 4097 ∷ 256 ∷ 257 ∷ 258 ∷ 259 ∷ 16 ∷ 8191 ∷ [])
    ≡ EditPat ∷ EditSdt ∷ EditPmt ∷ EditPmt ∷ Pass ∷ Pass ∷ Pass ∷ Drop ∷ Drop ∷ Drop ∷ []
two-kept-row = refl

-- both are removed: PID 256 is of no other service now
two-removed-row : map (action_of (Remove false) (2 ∷ 1 ∷ []) pat_row pmts_row) (0 ∷ 17 ∷ 4096 ∷ 4097 ∷ 256 ∷ 257 ∷ 258 ∷ 20 ∷ 16 ∷ 8191 ∷ [])
    ≡ EditPat ∷ EditSdt ∷ Drop ∷ Drop ∷ Drop ∷ Drop ∷ Drop ∷ Pass ∷ Pass ∷ Pass ∷ []
two-removed-row = refl

-- services 1, 2 and 3 on PID 100: it stays as long as one of them does, and another entry of a service saves it too
abbrev pub together_row : Option TableHolding
together_row = Some (table_of 0x00 1 [] [] (item_of 1 100 [] ∷ item_of 2 100 [] ∷ item_of 3 100 [] ∷ item_of 4 101 [] ∷ item_of 5 101 [] ∷ item_of 5 101 [] ∷ []))

together-removed-row :
    map (λ services. action_of (Remove false) services together_row (λ _. None) 100) ((1 ∷ []) ∷ (1 ∷ 3 ∷ []) ∷ (1 ∷ 2 ∷ 3 ∷ []) ∷ []) ≡ Pass ∷ Pass ∷ Drop ∷ []
together-removed-row = refl

further-entry-row :
    map (λ services. action_of (Remove false) services together_row (λ _. None) 101) ((4 ∷ []) ∷ (5 ∷ []) ∷ (4 ∷ 5 ∷ []) ∷ []) ≡ Pass ∷ Pass ∷ Pass ∷ []
further-entry-row = refl

-- PMTs of services on one PID, where 1 and 3 are kept
together-kept-row : map (λ service. carried_if_one (1 ∷ 3 ∷ []) (Some (table_of 0x02 service (8191 ∷ []) [] []))) (1 ∷ 2 ∷ 3 ∷ []) ≡ same ∷ away ∷ same ∷ []
together-kept-row = refl

-- entries of a PAT with services 1 and 3 kept, and removed
entries-row : map (entry_stays (Keep nothing_else) (1 ∷ 3 ∷ [])) (item_of 0 16 [] ∷ item_of 1 100 [] ∷ item_of 2 100 [] ∷ item_of 3 101 [] ∷ []) ≡ true ∷ true ∷ false ∷ true ∷ []
entries-row = refl

others-row : map (entry_stays (Remove false) (1 ∷ 3 ∷ [])) (item_of 0 16 [] ∷ item_of 1 100 [] ∷ item_of 2 100 [] ∷ item_of 3 101 [] ∷ []) ≡ true ∷ false ∷ true ∷ false ∷ []
others-row = refl

-- one of the services is enough; to be kept it has to have a PMT
there-row : map (λ services. is_any_there (Keep nothing_else) services pat_row pmts_row) ((9 ∷ []) ∷ (9 ∷ 2 ∷ []) ∷ []) ≡ false ∷ true ∷ []
there-row = refl

there-without-pmt-row : is_any_there (Keep nothing_else) (1 ∷ 2 ∷ []) together_row (λ _. None) ≡ false
there-without-pmt-row = refl

there-to-remove-row : is_any_there (Remove false) (9 ∷ 2 ∷ []) together_row (λ _. None) ≡ true
there-to-remove-row = refl

-- a service that is there twice counts once
once-row : each_once (769 ∷ 770 ∷ 769 ∷ 769 ∷ 1 ∷ []) ≡ 769 ∷ 770 ∷ 1 ∷ []
once-row = refl
