-- An editor's step: one packet more.
use Rattle.std.proofs.Common.{◌≡◌, ℕ, ◌+◌, ◌%◌, ◌<◌, ◌≤◌, ◌||◌, Bool, false, List, [], ◌∷◌, ◌++◌, length, take, suc, Option, Some, None, refl, sym, ◌∙◌, ap, arith, append_assoc, length-append, subst, map}
use Rattle.std.proofs.lemmas.List.{take-append-le}
use Rattle.indexmap.specs.IndexMap.{values}
use Rattle.ts_packet.specs.Header.{with_counter}
use Rattle.ts_packetize.specs.Cycle.{CycleState}
use Rattle.ts_packetize.specs.Ordinals.{Cycles, packet_at, written_before, in_place, replaced_at}
use Rattle.ts_packetize.specs.Packets.{packets_of}
use Rattle.ts_demux.specs.TablesOn.{Completes}
use Rattle.plug_psi.specs.Contents.{contents_of}
use Rattle.plug_psi.specs.ContentsState.{HasContents}
use Rattle.plug_psi.specs.Edits.{Change, edited_sections}
use Rattle.plug_psi.specs.EditedCycles.{EditsInUse, edited_packets, cycles_by, replaced_by}
use Rattle.plug_psi.specs.EditorState.{StandsAt, Edits, Renewed, NextInPlace}
use Rattle.plug_psi.specs.declared.contents.Contents.{Contents}
use Rattle.plug_psi.proofs.Choice.{neither}
use Rattle.plug_psi.proofs.ContentsLemmas.{contents-kept}
use Rattle.plug_psi.proofs.OrdinalLemmas.{written-more, left-none, written-none, agree}

in_place-same : (a b : ℕ) (row : Option (List ℕ)) → a % 16 ≡ b % 16 → in_place a row ≡ in_place b row
in_place-same a b None e = refl
in_place-same a b (Some row) e = ap (with_counter row) e

-- a step of a cycle that is before an ordinal
stands-next :
    (cycle : Cycles) (n : ℕ) (old new : CycleState) (counter : ℕ) (packet : List ℕ) (behind : ℕ) →
    NextInPlace old new counter packet behind → StandsAt cycle n old.left counter → (old.left ≡ [] → old.contents ≡ cycle n) →
    (packet ≡ replaced_at cycle n) × StandsAt cycle (suc n) new.left behind
stands-next cycle n old new counter packet behind step stands same =
    let places = step.at_ordinal cycle n stands.left_over same in
    let c : counter % 16 ≡ written_before cycle n % 16 = omega (arith, stands.counts) in (
      places.placed ∙ in_place-same counter (written_before cycle n) (packet_at cycle n) c,
      record {
        left_over = places.left_over;
        counts = omega (arith, places.counted, written-more cycle n, stands.counts);
      },
    )

-- a cycle that was never asked is before the first packet
pub stands-first : (cycle : Cycles) (left : List (List ℕ)) → left ≡ [] → StandsAt cycle 0 left 0
stands-first cycle left e =
    record { left_over = e ∙ sym (left-none cycle); counts = sym (ap (λ n. n % 16) (written-none cycle)) }

take_up_to : (xs more : List (List ℕ)) (x : List ℕ) → take (suc (length xs)) (xs ++ x ∷ more) ≡ xs ++ x ∷ []
take_up_to [] more x = refl
take_up_to (y ∷ xs) more x = ap (λ t. y ∷ t) (take_up_to xs more x)

-- a cycle that starts with a packet has the contents known at it, under the edit in use there, whatever comes after
cycle-here :
    (pid : ℕ) (edits : EditsInUse) (taken more : List (List ℕ)) (packet : List ℕ) →
    cycles_by pid edits (taken ++ packet ∷ more) (length taken) ≡ edited_packets pid (edits (length taken)) (taken ++ packet ∷ [])
cycle-here pid edits taken more packet =
    ap (edited_packets pid (edits (length taken)))
    (ap (λ n. take n (taken ++ packet ∷ more)) (let e : length taken + 1 ≡ suc (length taken) = omega arith in e) ∙ take_up_to taken more packet)

replaced-is : (pid : ℕ) (edits : EditsInUse) (taken : List (List ℕ)) (packet : List ℕ) → replaced_at (cycles_by pid edits (taken ++ packet ∷ [])) (length taken) ≡ replaced_by pid edits taken packet
unfolding replaced_by
replaced-is pid edits taken packet = refl

length-one_more : (taken : List (List ℕ)) (packet : List ℕ) → suc (length taken) ≡ length (taken ++ packet ∷ [])
length-one_more [] packet = refl
length-one_more (x ∷ taken) packet = ap suc (length-one_more taken packet)

stands-elsewhere : (cycle other : Cycles) (n m : ℕ) (left : List (List ℕ)) (counter : ℕ) → cycle ≡ other → n ≡ m → StandsAt cycle n left counter → StandsAt other m left counter
stands-elsewhere cycle other n m left counter e f s = subst (λ c. StandsAt c m left counter) e (subst (λ k. StandsAt cycle k left counter) f s)

-- What an editor's parts do for one packet: contents and cycle before and after, with the cycle renewed in between.
pub record Advance (edit : List (List ℕ) → Change) (contents now : Contents) (old mid new : CycleState) (counter behind : ℕ) (changed came still : Bool) (packet put : List ℕ) (tables : List (List (List ℕ))) : Type 0 where
  pub took : (pid : ℕ) (taken : List (List ℕ)) → HasContents contents pid taken → Completes pid taken packet tables → HasContents now pid (taken ++ packet ∷ [])
  pub same : came ≡ false → now.tables.entries ≡ contents.tables.entries
  pub renewed : Renewed old mid (changed || came) still (packets_of old.pid (edited_sections edit (values now.tables)))
  pub step : NextInPlace mid new (counter % 16) put behind

mod_mod : (n : ℕ) → n % 16 % 16 ≡ n % 16
mod_mod n = omega arith

module _
    (edits : EditsInUse) (edit : List (List ℕ) → Change) (contents now : Contents) (old mid new : CycleState) (counter behind : ℕ) (changed came still : Bool) (packet put : List ℕ) (tables : List (List (List ℕ)))
    (a : Advance edit contents now old mid new counter behind changed came still packet put tables)
    (pid : ℕ) (taken : List (List ℕ)) (e : Edits pid edits edit contents old counter changed taken) (in_use : edits (length taken) ≡ edit) (completes : Completes pid taken packet tables) where
  has : HasContents now pid (taken ++ packet ∷ [])
  has = a.took pid taken e.contents_taken completes

  -- the expected packets of the renewal are those of the edited contents
  wanted : packets_of old.pid (edited_sections edit (values now.tables)) ≡ edited_packets pid edit (taken ++ packet ∷ [])
  wanted =
      ap (λ n. packets_of n (edited_sections edit (values now.tables))) e.same_pid
      ∙ ap (λ tables. packets_of pid (edited_sections edit tables)) (contents-kept now pid (taken ++ packet ∷ []) has)

  -- where no table came since, the next cycle has them already
  already : (changed || came) ≡ false → old.contents ≡ packets_of old.pid (edited_sections edit (values now.tables))
  already none =
      let no = neither changed came none in
      let before : contents_of pid taken ≡ values now.tables = sym (ap (map (λ entry. entry.1)) (a.same no.1) ∙ contents-kept contents pid taken e.contents_taken) in
      e.unchanged no.0
      ∙ ap (λ tables. packets_of pid (edited_sections edit tables)) before
      ∙ sym (ap (λ n. packets_of n (edited_sections edit (values now.tables))) e.same_pid)

  renewed-is : still ≡ false → mid.contents ≡ edited_packets pid edit (taken ++ packet ∷ [])
  renewed-is none = a.renewed.known none already ∙ wanted

  -- however edits and packets go on
  goes : (later : EditsInUse) (more : List (List ℕ)) → ((s : ℕ) → s < suc (length taken) → later s ≡ edits s) →
      (put ≡ replaced_at (cycles_by pid later (taken ++ packet ∷ more)) (length taken)) × StandsAt (cycles_by pid later (taken ++ packet ∷ more)) (suc (length taken)) new.left behind
  goes later more alike =
      let cycle = cycles_by pid later (taken ++ packet ∷ more) in
      let stands = e.to_come later (packet ∷ more) (λ s h. alike s (omega (arith, h))) in
      let here : later (length taken) ≡ edit = alike (length taken) (omega arith) ∙ in_use in
      stands-next cycle (length taken) mid new (counter % 16) put behind a.step
      (record { left_over = a.renewed.same_left ∙ stands.left_over; counts = ap (λ n. n % 16) stands.counts ∙ mod_mod (written_before cycle (length taken)) })
      (λ none.
      renewed-is (a.renewed.begins (sym a.renewed.same_left ∙ none))
      ∙ sym (cycle-here pid later taken more packet ∙ ap (λ w. edited_packets pid w (taken ++ packet ∷ [])) here))

  -- what is put in the packet's place
  pub advance-replaces : put ≡ replaced_by pid edits taken packet
  advance-replaces = (goes edits [] (λ s h. refl)).0 ∙ replaced-is pid edits taken packet

  -- and the parts stand for one packet more
  pub advance-stands : Edits pid edits edit now new behind still (taken ++ packet ∷ [])
  advance-stands = record {
    contents_taken = has;
    same_pid = a.step.same_pid ∙ a.renewed.same_pid ∙ e.same_pid;
    to_come = λ later more alike.
        stands-elsewhere (cycles_by pid later (taken ++ packet ∷ more)) (cycles_by pid later ((taken ++ packet ∷ []) ++ more)) (suc (length taken)) (length (taken ++ packet ∷ [])) new.left behind
        (ap (cycles_by pid later) (sym (append_assoc taken (packet ∷ []) more))) (length-one_more taken packet)
        (goes later more (λ s h. alike s (omega (arith, h, length-one_more taken packet)))).1;
    unchanged = λ none. a.step.same_contents ∙ renewed-is none;
  }

-- What is put in a packet's place is the same by the cycles of all packets, those after it too, whatever their edits.
pub replaced-whole :
    (pid : ℕ) (edits later : EditsInUse) (taken more : List (List ℕ)) (packet : List ℕ) → ((s : ℕ) → s ≤ length taken → later s ≡ edits s) →
    replaced_at (cycles_by pid later (taken ++ packet ∷ more)) (length taken) ≡ replaced_by pid edits taken packet
unfolding replaced_by
replaced-whole pid edits later taken more packet alike =
    let c = cycles_by pid later (taken ++ packet ∷ more) in
    let d = cycles_by pid edits (taken ++ packet ∷ []) in
    let a = agree c d (length taken) (λ s h. ap (λ w. edited_packets pid w (take (s + 1) (taken ++ packet ∷ more))) (alike s h) ∙ ap (edited_packets pid (edits s)) (take_same s taken packet more h)) in
    ap (λ k. in_place k (packet_at c (length taken))) a.written ∙ ap (in_place (written_before d (length taken))) a.packets
  where
    take_same : (s : ℕ) (xs : List (List ℕ)) (x : List ℕ) (ys : List (List ℕ)) → s ≤ length xs → take (s + 1) (xs ++ x ∷ ys) ≡ take (s + 1) (xs ++ x ∷ [])
    take_same s xs x ys h =
        ap (λ t. take (s + 1) t) (sym (append_assoc xs (x ∷ []) ys))
        ∙ take-append-le (s + 1) (xs ++ x ∷ []) ys (omega (arith, h, length-append xs (x ∷ [])))
