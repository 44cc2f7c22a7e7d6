use Rattle.std.proofs.Common.{◌≡◌, ℕ, Bool, ◌<◌, ◌+◌, ◌-◌, List, Option, None, Some, [], ◌∷◌, ◌++◌, length, take, drop, get_or, ap, refl, sym, subst, ◌∙◌, arith, length-append, length-take, append-nil, is_some}
use Rattle.std.proofs.lemmas.List.{take-set}
use Rattle.ts_packet.specs.declared.cell.Cell.{Cell}
use Rattle.chain_model.specs.PluginRule.{PluginRule}
use Rattle.chain_model.specs.Apply.{StageList, became, apply_after, refused, stopped, last_passed}
use Rattle.chain_model.specs.Joint.{agreement_of}
use Rattle.chain_model.proofs.AgreementLaws.{agreement_of-within}
use Rattle.plugin_trait.specs.Driving.{AgreesNow, made_so_far}
use Rattle.plugin_trait.specs.declared.list_end.ListEnd.TheVariants.{Through, Last}
use Rattle.plugin_trait.specs.Steps.{met_after, StepTells, HasRoom, IsPreallocatedFor}
use Rattle.plugin_trait.proofs.Going.{half_ends_after, half_ends_before, half_goes_on, half_through, behind, left_as_it_was, met-more, met_goes_on, tells_goes_on, reads, same_after}
use Rattle.plugin_trait.proofs.FarLemmas.{far_as_before, far_goes_on, far_ends_after}
use Rattle.plugin_trait.proofs.AgreeingLemmas.{agreed_step, newly_agreed-within}
use Rattle.ts_packet.specs.Cells.{Dropped}
use Rattle.cell_rows.specs.Cells.{cells_of}
use Rattle.cell_rows.proofs.CellLemmas.{cells_long}
use Rattle.plugin_trait.proofs.plugin.Plugin.steps.Goals as goal

-- where room was made for more positions than this one, there is room for it
room_at : (preallocated : Option ℕ) (stands : List Cell → ℕ → Type 0) (history : List Cell) (mark at end : ℕ) → stands history mark → length history ≡ at → at < end → IsPreallocatedFor preallocated (end - mark) → HasRoom preallocated stands at
room_at None stands history mark at end holds count lt is = absurd is
room_at (Some room) stands history mark at end holds count lt is =
    record { room = room; is_preallocated = refl; history = history; mark = mark; holds = holds; count = count; within = omega arith }

-- so many cells were met where the loop stands
met_count : (history given : List Cell) (i at : ℕ) → length history ≡ at → i < length given → length (history ++ take i given) ≡ at + i
met_count history given i at count within = simp (length-append, length-take) (omega arith)

pub loop-i-init : goal.loop-i-init
loop-i-init g c = record {
  met = λ history mark holds count. subst (λ (h : List Cell). g.Self.Plugin.stands_for c.args.self.now h mark) (sym (append-nil history)) holds;
  made = λ history mark holds count. ap (λ (h : List Cell). apply_after (g.Self.Plugin.rule c.args.self.now) h (cells_of c.args.packets.now c.args.marks.now)) (sym (append-nil history));
  far = λ history mark holds count. refl;
  rest = refl;
  same_rule = refl;
  same_preallocated = refl;
  same_silent = refl;
  agreed = λ history mark holds count notes. record {
    tells = sym (newly_agreed-within c.args.at (agreement_of (g.Self.Plugin.rule c.args.self.now) (history ++ []))
        (λ m is. let few = agreement_of-within (g.Self.Plugin.rule c.args.self.now) (history ++ []) m is in omega (arith, length-append history [])));
    notes = notes ∙ ap (λ (h : List Cell). is_some (agreement_of (g.Self.Plugin.rule c.args.self.now) h)) (sym (append-nil history));
  };
}

pub meet-requires-clause-met : goal.meet-requires-clause-met
meet-requires-clause-met g c =
    let met = c.requires.met in
    record {
      history = met.history ++ take c.loop-i.i (cells_of c.args.packets.now c.args.marks.now);
      mark = met.mark;
      holds = c.loop-i.invariant.met met.history met.mark met.holds met.count;
      count = met_count met.history (cells_of c.args.packets.now c.args.marks.now) c.loop-i.i c.args.at met.count (let n = cells_long c.args.packets.now c.args.marks.now c.requires.long in let t = c.loop-i-test.true in omega (arith, n, t));
    }

pub loop-i-preserved : goal.loop-i-preserved
loop-i-preserved g c =
    let rule : PluginRule = g.Self.Plugin.rule c.args.self.now in
    let cells : List Cell = (cells_of c.args.packets.now c.args.marks.now) in
    let i : ℕ = c.loop-i.i in
    let cell : Cell = get_or (cells_of c.loop-i.packets c.loop-i.marks) i Dropped in
    let is = reads (cells_of c.loop-i.packets c.loop-i.marks) cells i (let n = cells_long c.args.packets.now c.args.marks.now c.requires.long in let t = c.loop-i-test.true in omega (arith, n, t)) c.loop-i.invariant.rest in
    record {
      met = λ history mark holds count.
          let before = history ++ take i cells in
          let n = met_count history cells i c.args.at count (let n = cells_long c.args.packets.now c.args.marks.now c.requires.long in let t = c.loop-i-test.true in omega (arith, n, t)) in
          let stands = c.meet.ensures.meets before mark (c.loop-i.invariant.met history mark holds count) n in
          let more = met_goes_on before cell c.meet.result c.in-Pass.is ∙ sym (met-more history cells i cell (let n = cells_long c.args.packets.now c.args.marks.now c.requires.long in let t = c.loop-i-test.true in omega (arith, n, t)) is) in
          subst (λ (met : List Cell). g.Self.Plugin.stands_for c.meet.new.self met mark) more stands;
      made = λ history mark holds count.
          let before = history ++ take i cells in
          let n = met_count history cells i c.args.at count (let n = cells_long c.args.packets.now c.args.marks.now c.requires.long in let t = c.loop-i-test.true in omega (arith, n, t)) in
          let told = c.meet.ensures.tells before mark (c.loop-i.invariant.met history mark holds count) n in
          let goes = subst (λ (r : PluginRule). StepTells r before cell c.meet.result (get_or (cells_of c.meet.new.packets c.meet.new.marks) c.loop-i.i Dropped)) c.loop-i.invariant.same_rule told in
          half_goes_on rule history cells (cells_of c.loop-i.packets c.loop-i.marks) i cell (apply_after rule history cells) (let n = cells_long c.args.packets.now c.args.marks.now c.requires.long in let t = c.loop-i-test.true in omega (arith, n, t)) is
          (c.loop-i.invariant.made history mark holds count) (get_or (cells_of c.meet.new.packets c.meet.new.marks) c.loop-i.i Dropped) (let a = c.loop-i.auto.packets in let b = c.loop-i.auto.marks in let o = c.requires.long in let n = cells_long c.loop-i.packets c.loop-i.marks (omega (arith, a, b, o)) in let t = c.loop-i-test.true in omega (arith, n, t, a))
          (tells_goes_on rule before cell (get_or (cells_of c.meet.new.packets c.meet.new.marks) c.loop-i.i Dropped) c.meet.result c.in-Pass.is goes)
          ∙ ap (λ (xs : List Cell). behind (take (i + 1) xs) (apply_after rule (history ++ take (i + 1) cells) (drop (i + 1) cells))) (sym c.meet.ensures.cells);
      far = λ history mark holds count.
          let before = history ++ take i cells in
          let n = met_count history cells i c.args.at count (let n = cells_long c.args.packets.now c.args.marks.now c.requires.long in let t = c.loop-i-test.true in omega (arith, n, t)) in
          let told = c.meet.ensures.tells before mark (c.loop-i.invariant.met history mark holds count) n in
          let goes = subst (λ (r : PluginRule). StepTells r before cell c.meet.result (get_or (cells_of c.meet.new.packets c.meet.new.marks) c.loop-i.i Dropped)) c.loop-i.invariant.same_rule told in
          far_goes_on rule history cells (cells_of c.loop-i.packets c.loop-i.marks) i cell (get_or (cells_of c.meet.new.packets c.meet.new.marks) c.loop-i.i Dropped) (let n = cells_long c.args.packets.now c.args.marks.now c.requires.long in let t = c.loop-i-test.true in omega (arith, n, t)) (let a = c.loop-i.auto.packets in let b = c.loop-i.auto.marks in let o = c.requires.long in let n = cells_long c.loop-i.packets c.loop-i.marks (omega (arith, a, b, o)) in let t = c.loop-i-test.true in omega (arith, n, t, a)) is
          (c.loop-i.invariant.far history mark holds count) (tells_goes_on rule before cell (get_or (cells_of c.meet.new.packets c.meet.new.marks) c.loop-i.i Dropped) c.meet.result c.in-Pass.is goes)
          ∙ ap (λ (xs : List Cell). made_so_far (take (i + 1) xs) Through) (sym c.meet.ensures.cells);
      rest = ap (drop (i + 1)) c.meet.ensures.cells ∙ same_after _ _ i (get_or (cells_of c.meet.new.packets c.meet.new.marks) c.loop-i.i Dropped) c.loop-i.invariant.rest;
      same_rule = c.meet.ensures.same_rule ∙ c.loop-i.invariant.same_rule;
      same_preallocated = c.meet.ensures.same_preallocated ∙ c.loop-i.invariant.same_preallocated;
      same_silent = c.meet.ensures.same_silent ∙ c.loop-i.invariant.same_silent;
      agreed = λ history mark holds count notes.
          let before = history ++ take i cells in
          let n = met_count history cells i c.args.at count (let n = cells_long c.args.packets.now c.args.marks.now c.requires.long in let t = c.loop-i-test.true in omega (arith, n, t)) in
          let stands = subst (λ (met : List Cell). g.Self.Plugin.stands_for c.meet.new.self met mark) (met_goes_on before cell c.meet.result c.in-Pass.is)
          (c.meet.ensures.meets before mark (c.loop-i.invariant.met history mark holds count) n) in
          agreed_step rule (g.Self.Plugin.rule c.meet.new.self) history cells i c.args.at cell c.loop-i.agreed c.note_agreement.result c.or-agreed.result c.loop-i.noted c.note_agreement.new.noted
          (let n = cells_long c.args.packets.now c.args.marks.now c.requires.long in let t = c.loop-i-test.true in omega (arith, n, t)) is count (c.loop-i.invariant.agreed history mark holds count notes)
          (c.meet.ensures.same_rule ∙ c.loop-i.invariant.same_rule) (subst (λ (b : Bool). AgreesNow c.loop-i.noted b (c.args.at + i + 1) c.note_agreement.result c.note_agreement.new.noted)
          (c.agreed-agrees.ensures (before ++ cell ∷ []) mark stands) c.note_agreement.ensures) c.or-agreed.ensures;
    }

pub returns-in-Last-clause-met : goal.returns-in-Last-clause-met
returns-in-Last-clause-met g c = λ history mark holds count.
    let before = history ++ take c.loop-i.i (cells_of c.args.packets.now c.args.marks.now) in
    let cell = get_or (cells_of c.loop-i.packets c.loop-i.marks) c.loop-i.i Dropped in
    let n = met_count history (cells_of c.args.packets.now c.args.marks.now) c.loop-i.i c.args.at count (let n = cells_long c.args.packets.now c.args.marks.now c.requires.long in let t = c.loop-i-test.true in omega (arith, n, t)) in
    let is = reads (cells_of c.loop-i.packets c.loop-i.marks) (cells_of c.args.packets.now c.args.marks.now) c.loop-i.i (let n = cells_long c.args.packets.now c.args.marks.now c.requires.long in let t = c.loop-i-test.true in omega (arith, n, t)) c.loop-i.invariant.rest in
    let stands = c.in-Last.ensures.meets before mark (c.loop-i.invariant.met history mark holds count) n in
    subst (λ (met : List Cell). g.Self.Plugin.stands_for c.meet.new.self met mark)
    (sym (met-more history (cells_of c.args.packets.now c.args.marks.now) c.loop-i.i cell (let n = cells_long c.args.packets.now c.args.marks.now c.requires.long in let t = c.loop-i-test.true in omega (arith, n, t)) is)) stands

pub returns-in-Last-clause-agreed : goal.returns-in-Last-clause-agreed
returns-in-Last-clause-agreed g c = λ history mark holds count notes.
    let rule : PluginRule = g.Self.Plugin.rule c.args.self.now in
    let cells : List Cell = (cells_of c.args.packets.now c.args.marks.now) in
    let i : ℕ = c.loop-i.i in
    let cell : Cell = get_or (cells_of c.loop-i.packets c.loop-i.marks) i Dropped in
    let is = reads (cells_of c.loop-i.packets c.loop-i.marks) cells i (let n = cells_long c.args.packets.now c.args.marks.now c.requires.long in let t = c.loop-i-test.true in omega (arith, n, t)) c.loop-i.invariant.rest in
    let before = history ++ take i cells in
    let n = met_count history cells i c.args.at count (let n = cells_long c.args.packets.now c.args.marks.now c.requires.long in let t = c.loop-i-test.true in omega (arith, n, t)) in
    let stands = c.in-Last.ensures.meets before mark (c.loop-i.invariant.met history mark holds count) n in
    agreed_step rule (g.Self.Plugin.rule c.meet.new.self) history cells i c.args.at cell c.loop-i.agreed c.note_agreement-in-Last.result c.or-agreed-in-Last.result c.loop-i.noted c.note_agreement-in-Last.new.noted
    (let n = cells_long c.args.packets.now c.args.marks.now c.requires.long in let t = c.loop-i-test.true in omega (arith, n, t)) is count (c.loop-i.invariant.agreed history mark holds count notes)
    (c.meet.ensures.same_rule ∙ c.loop-i.invariant.same_rule) (subst (λ (b : Bool). AgreesNow c.loop-i.noted b (c.args.at + i + 1) c.note_agreement-in-Last.result c.note_agreement-in-Last.new.noted)
    (c.agreed-agrees-in-Last.ensures (before ++ cell ∷ []) mark stands) c.note_agreement-in-Last.ensures) c.or-agreed-in-Last.ensures

pub returns-in-NoMemory-clause-makes : goal.returns-in-NoMemory-clause-makes
returns-in-NoMemory-clause-makes g c = λ history mark holds count.
    let rule = g.Self.Plugin.rule c.args.self.now in
    let rest = apply_after rule (history ++ take c.loop-i.i (cells_of c.args.packets.now c.args.marks.now)) (drop c.loop-i.i (cells_of c.args.packets.now c.args.marks.now)) in (
      rest.cells,
      ap (λ (s : StageList). s.cells) (c.loop-i.invariant.made history mark holds count)
          ∙ ap (λ (made : List Cell). made ++ rest.cells) (sym (take-set (cells_of c.loop-i.packets c.loop-i.marks) c.loop-i.i (get_or (cells_of c.meet.new.packets c.meet.new.marks) c.loop-i.i Dropped)) ∙ ap (take c.loop-i.i) (sym c.meet.ensures.cells)),
    )

pub returns-in-Last-clause-far : goal.returns-in-Last-clause-far
returns-in-Last-clause-far g c = λ history mark holds count.
    let rule : PluginRule = g.Self.Plugin.rule c.args.self.now in
    let cells : List Cell = (cells_of c.args.packets.now c.args.marks.now) in
    let i : ℕ = c.loop-i.i in
    let cell : Cell = get_or (cells_of c.loop-i.packets c.loop-i.marks) i Dropped in
    let is = reads (cells_of c.loop-i.packets c.loop-i.marks) cells i (let n = cells_long c.args.packets.now c.args.marks.now c.requires.long in let t = c.loop-i-test.true in omega (arith, n, t)) c.loop-i.invariant.rest in
    let before = history ++ take i cells in
    let n = met_count history cells i c.args.at count (let n = cells_long c.args.packets.now c.args.marks.now c.requires.long in let t = c.loop-i-test.true in omega (arith, n, t)) in
    let told = c.in-Last.ensures.tells before mark (c.loop-i.invariant.met history mark holds count) n in
    let action = ap (λ (r : PluginRule). became r before cell) (sym c.loop-i.invariant.same_rule) ∙ told in
    far_ends_after rule history cells (cells_of c.loop-i.packets c.loop-i.marks) i cell (get_or (cells_of c.meet.new.packets c.meet.new.marks) c.loop-i.i Dropped) (let n = cells_long c.args.packets.now c.args.marks.now c.requires.long in let t = c.loop-i-test.true in omega (arith, n, t)) (let a = c.loop-i.auto.packets in let b = c.loop-i.auto.marks in let o = c.requires.long in let n = cells_long c.loop-i.packets c.loop-i.marks (omega (arith, a, b, o)) in let t = c.loop-i-test.true in omega (arith, n, t, a)) is
    (c.loop-i.invariant.far history mark holds count) action ∙ ap (λ (xs : List Cell). made_so_far (take (i + 1) xs) Last) (sym c.meet.ensures.cells)

pub returns-in-NoMemory-clause-room : goal.returns-in-NoMemory-clause-room
returns-in-NoMemory-clause-room g c = λ has.
    let cells : List Cell = (cells_of c.args.packets.now c.args.marks.now) in
    let i : ℕ = c.loop-i.i in
    let stands = c.loop-i.invariant.met has.history has.mark has.holds has.count in
    let n = met_count has.history cells i c.args.at has.count (let n = cells_long c.args.packets.now c.args.marks.now c.requires.long in let t = c.loop-i-test.true in omega (arith, n, t)) in
    let preallocated = subst (λ (s : Option ℕ). IsPreallocatedFor s (c.args.at + length c.args.packets.now - has.mark)) (sym c.loop-i.invariant.same_preallocated) has.within in
    absurd (c.meet.ensures.room (room_at (g.Self.Plugin.preallocated c.loop-i.self) (g.Self.Plugin.stands_for c.loop-i.self) (has.history ++ take i cells) has.mark (c.args.at + i)
    (c.args.at + length c.args.packets.now) stands n (omega (arith, c.loop-i-test.true)) preallocated) c.in-NoMemory.is)

pub returns-in-Last-clause-makes : goal.returns-in-Last-clause-makes
returns-in-Last-clause-makes g c = λ history mark holds count.
    let rule : PluginRule = g.Self.Plugin.rule c.args.self.now in
    let cells : List Cell = (cells_of c.args.packets.now c.args.marks.now) in
    let i : ℕ = c.loop-i.i in
    let cell : Cell = get_or (cells_of c.loop-i.packets c.loop-i.marks) i Dropped in
    let is = reads (cells_of c.loop-i.packets c.loop-i.marks) cells i (let n = cells_long c.args.packets.now c.args.marks.now c.requires.long in let t = c.loop-i-test.true in omega (arith, n, t)) c.loop-i.invariant.rest in
    let before = history ++ take i cells in
    let n = met_count history cells i c.args.at count (let n = cells_long c.args.packets.now c.args.marks.now c.requires.long in let t = c.loop-i-test.true in omega (arith, n, t)) in
    let told = c.in-Last.ensures.tells before mark (c.loop-i.invariant.met history mark holds count) n in
    let action = ap (λ (r : PluginRule). became r before cell) (sym c.loop-i.invariant.same_rule) ∙ told in
    subst (λ (xs : List Cell). (take (i + 1) xs ≡ (apply_after rule history cells).cells) × ((apply_after rule history cells).ended ≡ Some last_passed)) (sym c.meet.ensures.cells) (half_ends_after rule history cells (cells_of c.loop-i.packets c.loop-i.marks) i cell (apply_after rule history cells) (let n = cells_long c.args.packets.now c.args.marks.now c.requires.long in let t = c.loop-i-test.true in omega (arith, n, t)) is
    (c.loop-i.invariant.made history mark holds count) (get_or (cells_of c.meet.new.packets c.meet.new.marks) c.loop-i.i Dropped) (let a = c.loop-i.auto.packets in let b = c.loop-i.auto.marks in let o = c.requires.long in let n = cells_long c.loop-i.packets c.loop-i.marks (omega (arith, a, b, o)) in let t = c.loop-i-test.true in omega (arith, n, t, a)) action)

pub returns-in-Stop-clause-makes : goal.returns-in-Stop-clause-makes
returns-in-Stop-clause-makes g c = λ history mark holds count.
    let rule : PluginRule = g.Self.Plugin.rule c.args.self.now in
    let cells : List Cell = (cells_of c.args.packets.now c.args.marks.now) in
    let i : ℕ = c.loop-i.i in
    let cell : Cell = get_or (cells_of c.loop-i.packets c.loop-i.marks) i Dropped in
    let is = reads (cells_of c.loop-i.packets c.loop-i.marks) cells i (let n = cells_long c.args.packets.now c.args.marks.now c.requires.long in let t = c.loop-i-test.true in omega (arith, n, t)) c.loop-i.invariant.rest in
    let before = history ++ take i cells in
    let n = met_count history cells i c.args.at count (let n = cells_long c.args.packets.now c.args.marks.now c.requires.long in let t = c.loop-i-test.true in omega (arith, n, t)) in
    let told = c.in-Stop.ensures.tells before mark (c.loop-i.invariant.met history mark holds count) n in
    let action = ap (λ (r : PluginRule). became r before cell) (sym c.loop-i.invariant.same_rule) ∙ told.0 in
    subst (λ (xs : List Cell). (take i xs ≡ (apply_after rule history cells).cells) × ((apply_after rule history cells).ended ≡ Some stopped)) (sym c.meet.ensures.cells) (half_ends_before rule history cells (cells_of c.loop-i.packets c.loop-i.marks) i cell (apply_after rule history cells) (let n = cells_long c.args.packets.now c.args.marks.now c.requires.long in let t = c.loop-i-test.true in omega (arith, n, t)) is
    (c.loop-i.invariant.made history mark holds count) stopped (get_or (cells_of c.meet.new.packets c.meet.new.marks) c.loop-i.i Dropped) action)

pub returns-in-Refuse-clause-makes : goal.returns-in-Refuse-clause-makes
returns-in-Refuse-clause-makes g c = λ history mark holds count.
    let rule : PluginRule = g.Self.Plugin.rule c.args.self.now in
    let cells : List Cell = (cells_of c.args.packets.now c.args.marks.now) in
    let i : ℕ = c.loop-i.i in
    let cell : Cell = get_or (cells_of c.loop-i.packets c.loop-i.marks) i Dropped in
    let is = reads (cells_of c.loop-i.packets c.loop-i.marks) cells i (let n = cells_long c.args.packets.now c.args.marks.now c.requires.long in let t = c.loop-i-test.true in omega (arith, n, t)) c.loop-i.invariant.rest in
    let before = history ++ take i cells in
    let n = met_count history cells i c.args.at count (let n = cells_long c.args.packets.now c.args.marks.now c.requires.long in let t = c.loop-i-test.true in omega (arith, n, t)) in
    let told = c.in-Refuse.ensures.tells before mark (c.loop-i.invariant.met history mark holds count) n in
    let action = ap (λ (r : PluginRule). became r before cell) (sym c.loop-i.invariant.same_rule) ∙ told.0 in
    subst (λ (xs : List Cell). (take i xs ≡ (apply_after rule history cells).cells) × ((apply_after rule history cells).ended ≡ Some (refused c.in-Refuse.reason))) (sym c.meet.ensures.cells) (half_ends_before rule history cells (cells_of c.loop-i.packets c.loop-i.marks) i cell (apply_after rule history cells) (let n = cells_long c.args.packets.now c.args.marks.now c.requires.long in let t = c.loop-i-test.true in omega (arith, n, t)) is
    (c.loop-i.invariant.made history mark holds count) (refused c.in-Refuse.reason) (get_or (cells_of c.meet.new.packets c.meet.new.marks) c.loop-i.i Dropped) action)

pub returns-in-Stop-clause-rest : goal.returns-in-Stop-clause-rest
returns-in-Stop-clause-rest g c =
    let met = c.requires.met in
    let n = met_count met.history (cells_of c.args.packets.now c.args.marks.now) c.loop-i.i c.args.at met.count (let n = cells_long c.args.packets.now c.args.marks.now c.requires.long in let t = c.loop-i-test.true in omega (arith, n, t)) in
    let stands = c.loop-i.invariant.met met.history met.mark met.holds met.count in
    let told = c.in-Stop.ensures.tells (met.history ++ take c.loop-i.i (cells_of c.args.packets.now c.args.marks.now)) met.mark stands n in
    ap (drop c.loop-i.i) c.meet.ensures.cells ∙ left_as_it_was (cells_of c.loop-i.packets c.loop-i.marks) (cells_of c.args.packets.now c.args.marks.now) c.loop-i.i Dropped (get_or (cells_of c.meet.new.packets c.meet.new.marks) c.loop-i.i Dropped) told.1 c.loop-i.invariant.rest

pub returns-in-Stop-clause-far : goal.returns-in-Stop-clause-far
returns-in-Stop-clause-far g c = λ history mark holds count.
    let rule : PluginRule = g.Self.Plugin.rule c.args.self.now in
    let cells : List Cell = (cells_of c.args.packets.now c.args.marks.now) in
    let i : ℕ = c.loop-i.i in
    let cell : Cell = get_or (cells_of c.loop-i.packets c.loop-i.marks) i Dropped in
    far_as_before (g.Self.Plugin.rule c.args.self.now) history cells (cells_of c.loop-i.packets c.loop-i.marks) i cell (get_or (cells_of c.meet.new.packets c.meet.new.marks) c.loop-i.i Dropped) (let n = cells_long c.args.packets.now c.args.marks.now c.requires.long in let t = c.loop-i-test.true in omega (arith, n, t)) (let a = c.loop-i.auto.packets in let b = c.loop-i.auto.marks in let o = c.requires.long in let n = cells_long c.loop-i.packets c.loop-i.marks (omega (arith, a, b, o)) in let t = c.loop-i-test.true in omega (arith, n, t, a))
    (reads (cells_of c.loop-i.packets c.loop-i.marks) cells i (let n = cells_long c.args.packets.now c.args.marks.now c.requires.long in let t = c.loop-i-test.true in omega (arith, n, t)) c.loop-i.invariant.rest) (c.loop-i.invariant.far history mark holds count) ∙ ap (λ (xs : List Cell). made_so_far (take i xs) Through) (sym c.meet.ensures.cells)

pub returns-in-Stop-clause-met : goal.returns-in-Stop-clause-met
returns-in-Stop-clause-met g c = λ history mark holds count.
    c.in-Stop.ensures.meets (history ++ take c.loop-i.i (cells_of c.args.packets.now c.args.marks.now)) mark (c.loop-i.invariant.met history mark holds count)
    (met_count history (cells_of c.args.packets.now c.args.marks.now) c.loop-i.i c.args.at count (let n = cells_long c.args.packets.now c.args.marks.now c.requires.long in let t = c.loop-i-test.true in omega (arith, n, t)))

pub returns-in-Stop-clause-agreed : goal.returns-in-Stop-clause-agreed
returns-in-Stop-clause-agreed g c = c.loop-i.invariant.agreed

pub returns-in-Refuse-clause-rest : goal.returns-in-Refuse-clause-rest
returns-in-Refuse-clause-rest g c =
    let met = c.requires.met in
    let n = met_count met.history (cells_of c.args.packets.now c.args.marks.now) c.loop-i.i c.args.at met.count (let n = cells_long c.args.packets.now c.args.marks.now c.requires.long in let t = c.loop-i-test.true in omega (arith, n, t)) in
    let stands = c.loop-i.invariant.met met.history met.mark met.holds met.count in
    let told = c.in-Refuse.ensures.tells (met.history ++ take c.loop-i.i (cells_of c.args.packets.now c.args.marks.now)) met.mark stands n in
    ap (drop c.loop-i.i) c.meet.ensures.cells ∙ left_as_it_was (cells_of c.loop-i.packets c.loop-i.marks) (cells_of c.args.packets.now c.args.marks.now) c.loop-i.i Dropped (get_or (cells_of c.meet.new.packets c.meet.new.marks) c.loop-i.i Dropped) told.1 c.loop-i.invariant.rest

pub returns-in-Refuse-clause-far : goal.returns-in-Refuse-clause-far
returns-in-Refuse-clause-far g c = λ history mark holds count.
    let rule : PluginRule = g.Self.Plugin.rule c.args.self.now in
    let cells : List Cell = (cells_of c.args.packets.now c.args.marks.now) in
    let i : ℕ = c.loop-i.i in
    let cell : Cell = get_or (cells_of c.loop-i.packets c.loop-i.marks) i Dropped in
    far_as_before (g.Self.Plugin.rule c.args.self.now) history cells (cells_of c.loop-i.packets c.loop-i.marks) i cell (get_or (cells_of c.meet.new.packets c.meet.new.marks) c.loop-i.i Dropped) (let n = cells_long c.args.packets.now c.args.marks.now c.requires.long in let t = c.loop-i-test.true in omega (arith, n, t)) (let a = c.loop-i.auto.packets in let b = c.loop-i.auto.marks in let o = c.requires.long in let n = cells_long c.loop-i.packets c.loop-i.marks (omega (arith, a, b, o)) in let t = c.loop-i-test.true in omega (arith, n, t, a))
    (reads (cells_of c.loop-i.packets c.loop-i.marks) cells i (let n = cells_long c.args.packets.now c.args.marks.now c.requires.long in let t = c.loop-i-test.true in omega (arith, n, t)) c.loop-i.invariant.rest) (c.loop-i.invariant.far history mark holds count) ∙ ap (λ (xs : List Cell). made_so_far (take i xs) Through) (sym c.meet.ensures.cells)

pub returns-in-Refuse-clause-met : goal.returns-in-Refuse-clause-met
returns-in-Refuse-clause-met g c = λ history mark holds count.
    c.in-Refuse.ensures.meets (history ++ take c.loop-i.i (cells_of c.args.packets.now c.args.marks.now)) mark (c.loop-i.invariant.met history mark holds count)
    (met_count history (cells_of c.args.packets.now c.args.marks.now) c.loop-i.i c.args.at count (let n = cells_long c.args.packets.now c.args.marks.now c.requires.long in let t = c.loop-i-test.true in omega (arith, n, t)))

pub returns-in-Refuse-clause-agreed : goal.returns-in-Refuse-clause-agreed
returns-in-Refuse-clause-agreed g c = c.loop-i.invariant.agreed

pub returns-in-NoMemory-clause-rest : goal.returns-in-NoMemory-clause-rest
returns-in-NoMemory-clause-rest g c =
    let met = c.requires.met in
    let n = met_count met.history (cells_of c.args.packets.now c.args.marks.now) c.loop-i.i c.args.at met.count (let n = cells_long c.args.packets.now c.args.marks.now c.requires.long in let t = c.loop-i-test.true in omega (arith, n, t)) in
    let stands = c.loop-i.invariant.met met.history met.mark met.holds met.count in
    let told = c.in-NoMemory.ensures.tells (met.history ++ take c.loop-i.i (cells_of c.args.packets.now c.args.marks.now)) met.mark stands n in
    ap (drop c.loop-i.i) c.meet.ensures.cells ∙ left_as_it_was (cells_of c.loop-i.packets c.loop-i.marks) (cells_of c.args.packets.now c.args.marks.now) c.loop-i.i Dropped (get_or (cells_of c.meet.new.packets c.meet.new.marks) c.loop-i.i Dropped) told c.loop-i.invariant.rest

pub returns-in-NoMemory-clause-far : goal.returns-in-NoMemory-clause-far
returns-in-NoMemory-clause-far g c = λ history mark holds count.
    let rule : PluginRule = g.Self.Plugin.rule c.args.self.now in
    let cells : List Cell = (cells_of c.args.packets.now c.args.marks.now) in
    let i : ℕ = c.loop-i.i in
    let cell : Cell = get_or (cells_of c.loop-i.packets c.loop-i.marks) i Dropped in
    far_as_before (g.Self.Plugin.rule c.args.self.now) history cells (cells_of c.loop-i.packets c.loop-i.marks) i cell (get_or (cells_of c.meet.new.packets c.meet.new.marks) c.loop-i.i Dropped) (let n = cells_long c.args.packets.now c.args.marks.now c.requires.long in let t = c.loop-i-test.true in omega (arith, n, t)) (let a = c.loop-i.auto.packets in let b = c.loop-i.auto.marks in let o = c.requires.long in let n = cells_long c.loop-i.packets c.loop-i.marks (omega (arith, a, b, o)) in let t = c.loop-i-test.true in omega (arith, n, t, a))
    (reads (cells_of c.loop-i.packets c.loop-i.marks) cells i (let n = cells_long c.args.packets.now c.args.marks.now c.requires.long in let t = c.loop-i-test.true in omega (arith, n, t)) c.loop-i.invariant.rest) (c.loop-i.invariant.far history mark holds count) ∙ ap (λ (xs : List Cell). made_so_far (take i xs) Through) (sym c.meet.ensures.cells)

pub returns-in-NoMemory-clause-met : goal.returns-in-NoMemory-clause-met
returns-in-NoMemory-clause-met g c = λ history mark holds count.
    c.in-NoMemory.ensures.meets (history ++ take c.loop-i.i (cells_of c.args.packets.now c.args.marks.now)) mark (c.loop-i.invariant.met history mark holds count)
    (met_count history (cells_of c.args.packets.now c.args.marks.now) c.loop-i.i c.args.at count (let n = cells_long c.args.packets.now c.args.marks.now c.requires.long in let t = c.loop-i-test.true in omega (arith, n, t)))

pub returns-in-NoMemory-clause-agreed : goal.returns-in-NoMemory-clause-agreed
returns-in-NoMemory-clause-agreed g c = c.loop-i.invariant.agreed

pub returns-clause-makes : goal.returns-clause-makes
returns-clause-makes g c = λ history mark holds count.
    let ps = c.args.packets.now in let ms = c.args.marks.now in let qs = c.loop-i.packets in let ns = c.loop-i.marks in let rule = g.Self.Plugin.rule c.args.self.now in
    let a = c.loop-i.auto.packets in let b = c.loop-i.auto.marks in let o = c.requires.long in let d = c.loop-i-test.false in let e = c.loop-i.auto.i-end in
    let n = cells_long ps ms o in let m = cells_long qs ns (omega (arith, a, b, o)) in
    subst (λ (k : ℕ). (take k (cells_of qs ns) ≡ (apply_after rule history (cells_of ps ms)).cells) × ((apply_after rule history (cells_of ps ms)).ended ≡ None)) m
    (half_through rule history (cells_of ps ms) (cells_of qs ns) c.loop-i.i (apply_after rule history (cells_of ps ms))
    (omega (arith, n, d)) (omega (arith, n, m, a)) (omega (arith, n, e)) (c.loop-i.invariant.made history mark holds count))

pub agreed-agrees-requires : goal.agreed-agrees-requires
agreed-agrees-requires g c =
    let met = c.requires.met in let cells = cells_of c.args.packets.now c.args.marks.now in
    let before = met.history ++ take c.loop-i.i cells in
    let n = met_count met.history cells c.loop-i.i c.args.at met.count (let n = cells_long c.args.packets.now c.args.marks.now c.requires.long in let t = c.loop-i-test.true in omega (arith, n, t)) in
    record {
      history = met_after c.meet.result before (get_or (cells_of c.loop-i.packets c.loop-i.marks) c.loop-i.i Dropped);
      mark = met.mark;
      holds = c.meet.ensures.meets before met.mark (c.loop-i.invariant.met met.history met.mark met.holds met.count) n;
    }

pub agreed-agrees-requires-in-Last : goal.agreed-agrees-requires-in-Last
agreed-agrees-requires-in-Last g c =
    let met = c.requires.met in let cells = cells_of c.args.packets.now c.args.marks.now in
    let before = met.history ++ take c.loop-i.i cells in
    let n = met_count met.history cells c.loop-i.i c.args.at met.count (let n = cells_long c.args.packets.now c.args.marks.now c.requires.long in let t = c.loop-i-test.true in omega (arith, n, t)) in
    record {
      history = met_after c.meet.result before (get_or (cells_of c.loop-i.packets c.loop-i.marks) c.loop-i.i Dropped);
      mark = met.mark;
      holds = c.meet.ensures.meets before met.mark (c.loop-i.invariant.met met.history met.mark met.holds met.count) n;
    }
