use Rattle.std.proofs.Common.{ℕ, List, [], ◌∷◌, ◌++◌, ap, sym, ◌∙◌}
use Rattle.ts_testgen.specs.Generated.{generated}
use Rattle.stage_run.specs.GeneratedInput.{generated_from}
use Rattle.stage_run.proofs.GeneratedLemmas.{generated-push}
use Rattle.stage_run.proofs.packet_feed.PacketFeed.next_packet.Goals as goal

pub returns-in-Stream-clause-puts : goal.returns-in-Stream-clause-puts
returns-in-Stream-clause-puts g c = λ first read rows.
    rw c.in-Stream.is
    (λ stands. let puts = c.next_packet.ensures.puts first read rows stands in
    record { same = tt; row = puts.row; is_put = puts.is_put; stands = puts.stands })

pub returns-in-Generated-clause-puts : goal.returns-in-Generated-clause-puts
returns-in-Generated-clause-puts g c = λ first read rows.
    let next = c.next_packet-in-Generated in
    let seed : ℕ = c.in-Generated.generated.generator.seed in
    let packets : ℕ = c.in-Generated.generated.packets in
    let row : List ℕ = generated seed packets in
    rw c.in-Generated.is
    (λ stands. record {
      same = (next.ensures.all, next.ensures.seed);
      row = row;
      is_put = next.ensures.puts;
      stands = (
        stands.0,
        ap (λ (l : List (List ℕ)). l ++ row ∷ []) stands.1
            ∙ generated-push seed packets
            ∙ ap (λ (n : ℕ). generated_from seed 0 n) (sym next.ensures.packets)
            ∙ ap (λ (s : ℕ). generated_from s 0 next.new.self.packets) (sym next.ensures.seed),
        tt,
        next.ensures.counted,
      );
    })
