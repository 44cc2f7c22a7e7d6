use Rattle.std.proofs.Common.{sym, subst, filter}
use Rattle.plug_analyze.specs.declared.note.Note.{Note}
use Rattle.plugin_notes.specs.Tallies.{IsCounted}
use Rattle.plug_analyze.specs.TotalsOf.{pids_of}
use Rattle.plug_analyze.proofs.NotesLemmas.{pids_of-more, pids_where-more}
use Rattle.plug_analyze.proofs.totals.Totals.add.Goals as goal

pub returns : goal.returns
returns c = λ notes t. record {
  packets = subst (IsCounted c.add_if.new.self) (sym (pids_of-more notes c.args.note)) (c.add_if.ensures (pids_of notes) t.packets);
  payload = subst (IsCounted c.add_if-2.new.self) (sym (pids_where-more (λ (n : Note). n.has_payload) notes c.args.note)) (c.add_if-2.ensures (pids_of (filter (λ (n : Note). n.has_payload) notes)) t.payload);
  scrambled = subst (IsCounted c.add_if-3.new.self) (sym (pids_where-more (λ (n : Note). n.is_scrambled) notes c.args.note)) (c.add_if-3.ensures (pids_of (filter (λ (n : Note). n.is_scrambled) notes)) t.scrambled);
  faults = subst (IsCounted c.add_if-4.new.self) (sym (pids_where-more (λ (n : Note). n.is_fault) notes c.args.note)) (c.add_if-4.ensures (pids_of (filter (λ (n : Note). n.is_fault) notes)) t.faults);
  pcr = subst (IsCounted c.add_if-5.new.self) (sym (pids_where-more (λ (n : Note). n.has_pcr) notes c.args.note)) (c.add_if-5.ensures (pids_of (filter (λ (n : Note). n.has_pcr) notes)) t.pcr);
}
