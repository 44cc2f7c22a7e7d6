use Rattle.std.proofs.Common.{◌≡◌, ◌≤◌, ℕ, ◌+◌, ◌-◌, List, [], ◌++◌, length, ap, refl, sym, subst, ◌∙◌, arith, length-append, append-nil, take, is_some, Bool, true, false, not, if◌then◌else◌, Result, is_ok, IsOk, Option, None, Some, IsSome}
use Rattle.ts_packet.specs.declared.cell.Cell.{Cell}
use Rattle.cell_rows.specs.Cells.{cells_of}
use Rattle.chain_model.specs.PluginRule.{PluginRule}
use Rattle.chain_model.specs.Apply.{apply_after}
use Rattle.chain_model.specs.Joint.{agreement_of}
use Rattle.chain_model.proofs.AgreementLaws.{agreement_of-within}
use Rattle.plugin_trait.specs.Steps.{IsPreallocatedFor}
use Rattle.plugin_trait.specs.PlacedLines.{placed_between}
use Rattle.plugin_trait.specs.Driving.{Makes, TellsAgreement, made_so_far}
use Rattle.plugin_trait.specs.declared.line.Line.{Line}
use Rattle.plugin_trait.proofs.Giving.{joined}
use Rattle.plugin_trait.proofs.AgreeingLemmas.{newly_agreed-within}
use Rattle.stage_run.proofs.SinceLemmas.{between-more}
use Rattle.stage_run.proofs.plugin_stage.PluginStage.pass.Goals as goal

-- a mark that was given, and the lines up to it
noted : {P : Type 0} (stands : P → List Cell → ℕ → Type 0) (plugin : P) (rule : PluginRule) (history : List Cell) (written mark : ℕ) (before after : List Line) (ok err : Bool)
    → ok ≡ not err → err ≡ false → stands plugin history (if ok then written else mark) × (after ≡ before ++ (if ok then placed_between rule history mark written else []))
    → stands plugin history written × (after ≡ before ++ placed_between rule history mark written)
noted stands plugin rule history written mark before after true err is none gives = gives
noted stands plugin rule history written mark before after false true is none gives = absurd cc
noted stands plugin rule history written mark before after false false is none gives = absurd cc

-- a mark that was not given, and no lines
unnoted : {P : Type 0} (stands : P → List Cell → ℕ → Type 0) (plugin : P) (rule : PluginRule) (history : List Cell) (written mark : ℕ) (before after : List Line) (ok err : Bool)
    → ok ≡ not err → err ≡ true → stands plugin history (if ok then written else mark) × (after ≡ before ++ (if ok then placed_between rule history mark written else []))
    → stands plugin history mark × (after ≡ before)
unnoted stands plugin rule history written mark before after false err is some_ gives = (gives.0, gives.1 ∙ append-nil before)
unnoted stands plugin rule history written mark before after true true is some_ gives = absurd cc
unnoted stands plugin rule history written mark before after true false is some_ gives = absurd cc

-- with the lines that were given out up to the mark, they are those of the cells below it, whatever is met after these
lines_below : (rule new_rule : PluginRule) (history more : List Cell) (from mark written : ℕ) → from ≤ mark → mark ≤ written → written ≤ length history → new_rule ≡ rule
    → (before after : List Line) → before ≡ placed_between rule history from mark → after ≡ before ++ placed_between rule history mark written
    → after ≡ placed_between new_rule (history ++ more) from written
lines_below rule new_rule history more from mark written first low high same before after was given =
    given
    ∙ (ap (λ (lines : List Line). lines ++ placed_between rule history mark written) was
    ∙ (joined rule history from mark written first low
    ∙ (between-more rule history more from written (omega arith) high
    ∙ ap (λ (r : PluginRule). placed_between r (history ++ more) from written) (sym same))))

-- a plugin that made room notes its mark
failed-unsteady : {E : Type 0} (preallocated : Option ℕ) (result : Result Unit E) (count : ℕ) (err : Bool) → (IsSome preallocated → IsOk result)
    → is_ok result ≡ not err → err ≡ true → IsPreallocatedFor preallocated count → ⊥
failed-unsteady None result count err room is none has = has
failed-unsteady (Some n) result count true room is none has = let e : is_ok result ≡ true = room refl in cc
failed-unsteady (Some n) result count false room is none has = cc

pub returns-then-is_err-clause-agreed : goal.returns-then-is_err-clause-agreed
returns-then-is_err-clause-agreed g c = λ history mark allows notes.
    let count : length history ≡ c.args.at = allows.count in
    record {
      tells = sym (newly_agreed-within c.args.at (agreement_of (g.P.Plugin.rule c.args.self.now.heard.plugin) (history ++ []))
          (λ m is. let few = agreement_of-within (g.P.Plugin.rule c.args.self.now.heard.plugin) (history ++ []) m is in omega (arith, length-append history [])));
      notes = notes ∙ ap (λ (h : List Cell). is_some (agreement_of (g.P.Plugin.rule c.args.self.now.heard.plugin) h)) (sym (append-nil history));
    }

pub returns-then-is_err-clause-room : goal.returns-then-is_err-clause-room
returns-then-is_err-clause-room g c = λ has.
    absurd (failed-unsteady (g.P.Plugin.preallocated c.args.self.now.heard.plugin) c.note.result (c.args.at + length c.args.packets.now - c.args.written) c.is_err.result
    c.note.ensures.room c.is_err.ensures.negation c.if-is_err.true has)

pub returns-then-is_err-clause-met : goal.returns-then-is_err-clause-met
returns-then-is_err-clause-met g c = λ from history mark allows.
    let rule = g.P.Plugin.rule c.args.self.now.heard.plugin in
    let gives = unnoted g.P.Plugin.stands_for c.note.new.self rule history c.args.written mark _ _ _ c.is_err.result c.is_err.ensures.negation c.if-is_err.true
    (c.note.ensures.gives history mark allows.holds.holds allows.not_below (omega (arith, allows.within, allows.count))) in
    let same : history ++ [] ≡ history = append-nil history in
    record {
      mark = mark;
      holds = record {
        holds = subst (λ (h : List Cell). g.P.Plugin.stands_for c.note.new.self h mark) (sym same) gives.0;
        lines = gives.1 ∙ (allows.holds.lines
            ∙ (ap (λ (h : List Cell). placed_between rule h from mark) (sym same)
            ∙ ap (λ (r : PluginRule). placed_between r (history ++ []) from mark) (sym c.note.ensures.same_rule)));
        taken = allows.holds.taken;
      };
      below = allows.not_below;
      told = λ fine. absurd (fine refl);
    }

pub returns-clause-makes : goal.returns-clause-makes
returns-clause-makes g c = λ history mark allows.
    let gives = noted g.P.Plugin.stands_for c.note.new.self (g.P.Plugin.rule c.args.self.now.heard.plugin) history c.args.written mark _ _ _ c.is_err.result c.is_err.ensures.negation c.if-is_err.false
    (c.note.ensures.gives history mark allows.holds allows.not_below (omega (arith, allows.within, allows.count))) in
    subst (λ (r : PluginRule). Makes (apply_after r history (cells_of c.args.packets.now c.args.marks.now)) (take c.steps.result.count (cells_of c.steps.new.packets c.steps.new.marks)) c.steps.result.end)
    c.note.ensures.same_rule (c.steps.ensures.makes history c.args.written gives.0 allows.count)

pub returns-clause-far : goal.returns-clause-far
returns-clause-far g c = λ history mark allows.
    let gives = noted g.P.Plugin.stands_for c.note.new.self (g.P.Plugin.rule c.args.self.now.heard.plugin) history c.args.written mark _ _ _ c.is_err.result c.is_err.ensures.negation c.if-is_err.false
    (c.note.ensures.gives history mark allows.holds allows.not_below (omega (arith, allows.within, allows.count))) in
    subst (λ (r : PluginRule). apply_after r history (take c.steps.result.count (cells_of c.args.packets.now c.args.marks.now)) ≡ made_so_far (take c.steps.result.count (cells_of c.steps.new.packets c.steps.new.marks)) c.steps.result.end)
    c.note.ensures.same_rule (c.steps.ensures.far history c.args.written gives.0 allows.count)

pub returns-clause-met : goal.returns-clause-met
returns-clause-met g c = λ from history mark allows.
    let rule = g.P.Plugin.rule c.args.self.now.heard.plugin in
    let within : c.args.written ≤ length history = omega (arith, allows.within, allows.count) in
    let gives = noted g.P.Plugin.stands_for c.note.new.self rule history c.args.written mark _ _ _ c.is_err.result c.is_err.ensures.negation c.if-is_err.false
    (c.note.ensures.gives history mark allows.holds.holds allows.not_below within) in
    record {
      mark = c.args.written;
      holds = record {
        holds = c.steps.ensures.met history c.args.written gives.0 allows.count;
        lines = lines_below rule _ history (take c.steps.result.count (cells_of c.args.packets.now c.args.marks.now)) from mark c.args.written allows.holds.taken allows.not_below within
            (c.steps.ensures.same_rule ∙ c.note.ensures.same_rule) _ _ allows.holds.lines gives.1;
        taken = let a = allows.holds.taken in let b = allows.not_below in omega arith;
      };
      below = omega arith;
      told = λ fine. refl;
    }

pub returns-clause-agreed : goal.returns-clause-agreed
returns-clause-agreed g c = λ history mark allows notes.
    let gives = noted g.P.Plugin.stands_for c.note.new.self (g.P.Plugin.rule c.args.self.now.heard.plugin) history c.args.written mark _ _ _ c.is_err.result c.is_err.ensures.negation c.if-is_err.false
    (c.note.ensures.gives history mark allows.holds allows.not_below (omega (arith, allows.within, allows.count))) in
    subst (λ (r : PluginRule). TellsAgreement r (history ++ take c.steps.result.count (cells_of c.args.packets.now c.args.marks.now)) c.args.at c.steps.result.agreed c.steps.new.noted)
    c.note.ensures.same_rule (c.steps.ensures.agreed history c.args.written gives.0 allows.count
    (notes ∙ ap (λ (r : PluginRule). is_some (agreement_of r history)) (sym c.note.ensures.same_rule)))

pub returns-clause-room : goal.returns-clause-room
returns-clause-room g c = λ has.
    let may = c.requires.may in
    let gives = noted g.P.Plugin.stands_for c.note.new.self (g.P.Plugin.rule c.args.self.now.heard.plugin) may.history c.args.written may.mark _ _ _ c.is_err.result c.is_err.ensures.negation c.if-is_err.false
    (c.note.ensures.gives may.history may.mark may.allows.holds may.allows.not_below (omega (arith, may.allows.within, may.allows.count))) in
    c.steps.ensures.room (record {
      history = may.history;
      mark = c.args.written;
      holds = gives.0;
      count = may.allows.count;
      within = subst (λ (s : Option ℕ). IsPreallocatedFor s (c.args.at + length c.args.packets.now - c.args.written)) (sym c.note.ensures.same_preallocated) has;
    })
