use Rattle.std.proofs.Common.{◌+◌, ◌-◌, ◌≡◌, ℕ, List, take, drop, get_or, ap, ◌∙◌, arith, add-zero}
use Rattle.std.proofs.lemmas.List.{get_or-take, get_or-drop}
use Rattle.ts_packet.specs.Cells.{Live}
use Rattle.ts_packet.specs.Labels.{no_labels}
use Rattle.stage_run.proofs.packet_row.put_packet.Goals as goal

pub packet_of-requires : goal.packet_of-requires
packet_of-requires c =
    let n : ℕ = c.args.from + 188 - c.args.from in
    record {
      sync = ap (λ (l : List ℕ). get_or l 0 0) c.in-Ok.ensures.1.same
          ∙ get_or-take n (drop c.args.from c.args.bytes.now) 0 0 (omega arith)
          ∙ get_or-drop c.args.from c.args.bytes.now 0 0
          ∙ ap (λ (k : ℕ). get_or c.args.bytes.now k 0) (add-zero c.args.from)
          ∙ c.requires.sync;
    }

pub returns-clause-put : goal.returns-clause-put
returns-clause-put c =
    let n : ℕ = c.args.from + 188 - c.args.from in
    c.live.ensures.cell c.packet_of.result
    ∙ ap (λ (p : List ℕ). Live p no_labels) (c.packet_of.ensures.bytes ∙ c.in-Ok.ensures.1.same
    ∙ ap (λ (k : ℕ). take k (drop c.args.from c.args.bytes.now)) (let e : n ≡ 188 = omega arith in e))
