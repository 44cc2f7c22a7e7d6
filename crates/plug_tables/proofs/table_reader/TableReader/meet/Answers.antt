use Rattle.std.proofs.Common.{[], ◌∷◌, ◌++◌, sym, ◌∙◌, ap, refl, true≢false}
use Rattle.ts_packet.specs.Header.{pid_of}
use Rattle.plug_psi.specs.InForce.{may_have_tables}
use Rattle.plug_psi.proofs.Choice.{neither}
use Rattle.plug_tables.specs.WatchedPackets.{is_watched}
use Rattle.plug_tables.specs.TableReaderState.{choice_in}
use Rattle.plug_tables.proofs.WatchedLemmas.{no_tables, some_tables}
use Rattle.plug_tables.proofs.table_reader.TableReader.meet.Goals as goal

pub returns-then-not-is_watched-clause-stands : goal.returns-then-not-is_watched-clause-stands
returns-then-not-is_watched-clause-stands c = λ met h.
    let upto = met ++ c.args.packet.now ∷ [] in
    let fed = c.in_ok-feed.ensures.stands met h.fed in
    record {
      fed = fed;
      entries = c.unfollowed_packets_change_nothing.ensures tt c.args.self.now.readers (is_watched (choice_in c.args.self.now)) met c.args.packet.now h.entries
          (ap (λ pid. is_watched (choice_in c.args.self.now) pid upto) (sym c.pid-pid.ensures.field) ∙ (sym (c.is_watched.ensures.tells upto fed) ∙ c.if-not-is_watched.true));
    }

pub returns-then-not-is_watched-clause-tables : goal.returns-then-not-is_watched-clause-tables
returns-then-not-is_watched-clause-tables c = λ met h.
    let upto = met ++ c.args.packet.now ∷ [] in
    let fed = c.in_ok-feed.ensures.stands met h.fed in
    no_tables (choice_in c.args.self.now) met c.args.packet.now _ c.new.ensures.items
    (ap (λ pid. is_watched (choice_in c.args.self.now) pid upto) (sym c.pid-pid.ensures.field) ∙ (sym (c.is_watched.ensures.tells upto fed) ∙ c.if-not-is_watched.true))

pub returns-clause-stands : goal.returns-clause-stands
returns-clause-stands c = λ met h.
    let upto = met ++ c.args.packet.now ∷ [] in
    let fed = c.in_ok-feed.ensures.stands met h.fed in
    record {
      fed = fed;
      entries = c.in_ok-tables.ensures.stands (is_watched (choice_in c.args.self.now)) met h.entries
          (ap (λ pid. is_watched (choice_in c.args.self.now) pid upto) (sym c.pid-pid.ensures.field) ∙ (sym (c.is_watched.ensures.tells upto fed) ∙ c.if-not-is_watched.false)) tt;
    }

pub returns-clause-tables : goal.returns-clause-tables
returns-clause-tables c = λ met h.
    let upto = met ++ c.args.packet.now ∷ [] in
    let fed = c.in_ok-feed.ensures.stands met h.fed in
    some_tables (choice_in c.args.self.now) met c.args.packet.now _
    (ap (λ pid. is_watched (choice_in c.args.self.now) pid upto) (sym c.pid-pid.ensures.field) ∙ (sym (c.is_watched.ensures.tells upto fed) ∙ c.if-not-is_watched.false))
    (c.in_ok-tables.ensures.tells (is_watched (choice_in c.args.self.now)) met h.entries tt)

pub returns-in_err-feed-clause-quiet : goal.returns-in_err-feed-clause-quiet
returns-in_err-feed-clause-quiet c = λ met h unread.
    let choice = choice_in c.args.self.now in
    let packet = c.args.packet.now in
    absurd (true≢false (sym (c.in_err-feed.ensures.quiet met h.fed (neither (may_have_tables (pid_of packet) met) (is_watched choice (pid_of packet) (met ++ packet ∷ [])) unread).0)))

pub returns-in_err-tables-clause-quiet : goal.returns-in_err-tables-clause-quiet
returns-in_err-tables-clause-quiet c = λ met h unread.
    let choice = choice_in c.args.self.now in
    let packet = c.args.packet.now in
    let upto = met ++ packet ∷ [] in
    let fed = c.in_ok-feed.ensures.stands met h.fed in
    absurd (true≢false (sym (ap (λ pid. is_watched choice pid upto) (sym c.pid-pid.ensures.field) ∙ (sym (c.is_watched.ensures.tells upto fed) ∙ c.if-not-is_watched.false))
    ∙ (neither (may_have_tables (pid_of packet) met) (is_watched choice (pid_of packet) upto) unread).1))

pub returns-then-not-is_watched-clause-quiet : goal.returns-then-not-is_watched-clause-quiet
returns-then-not-is_watched-clause-quiet c = λ met h unread. (c.new.ensures.items, refl)

pub returns-clause-quiet : goal.returns-clause-quiet
returns-clause-quiet c = λ met h unread.
    let choice = choice_in c.args.self.now in
    let packet = c.args.packet.now in
    let upto = met ++ packet ∷ [] in
    let fed = c.in_ok-feed.ensures.stands met h.fed in
    absurd (true≢false (sym (ap (λ pid. is_watched choice pid upto) (sym c.pid-pid.ensures.field) ∙ (sym (c.is_watched.ensures.tells upto fed) ∙ c.if-not-is_watched.false))
    ∙ (neither (may_have_tables (pid_of packet) met) (is_watched choice (pid_of packet) upto) unread).1))
