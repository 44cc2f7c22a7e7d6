use Rattle.std.proofs.Common.{ℕ, Option, refl, ap, ◌∙◌}
use Rattle.std.specs.Prelude.{unwrap_or}
use Rattle.chain_args.specs.General.{general, general_rows}
use Rattle.plugin_options.proofs.RefusalLemmas.{all_true, malformed, nothing_broken, value_refused}
use Rattle.chain_args.proofs.GeneralLemmas.{general-same}
use Rattle.chain_args.proofs.general_words.general_settings.Goals as goal

pub returns-in_err-buffer_packets-clause-reads : goal.returns-in_err-buffer_packets-clause-reads
returns-in_err-buffer_packets-clause-reads c =
    value_refused general c.args.found.now _ _ _ c.from_residual-in_err-buffer_packets.ensures.1 c.in_err-buffer_packets.ensures.reads refl
    (malformed general_rows c.args.found.now 3 _ refl)

pub returns-in_err-max_flushed_packets-clause-reads : goal.returns-in_err-max_flushed_packets-clause-reads
returns-in_err-max_flushed_packets-clause-reads c =
    value_refused general c.args.found.now _ _ _ c.from_residual-in_err-max_flushed_packets.ensures.1 c.in_err-max_flushed_packets.ensures.reads refl
    (malformed general_rows c.args.found.now 4 _ refl)

pub returns-in_err-max_input_packets-clause-reads : goal.returns-in_err-max_input_packets-clause-reads
returns-in_err-max_input_packets-clause-reads c =
    value_refused general c.args.found.now _ _ _ c.from_residual-in_err-max_input_packets.ensures.1 c.in_err-max_input_packets.ensures.reads refl
    (malformed general_rows c.args.found.now 5 _ refl)

pub returns-clause-reads : goal.returns-clause-reads
returns-clause-reads c = (
  nothing_broken general c.args.found.now refl
      (all_true _ _ c.in_ok-add_start_stuffing.ensures.reads.0 (all_true _ _ c.in_ok-add_stop_stuffing.ensures.reads.0 (all_true _ _ c.in_ok-between.ensures.reads.0
      (all_true _ _ c.in_ok-buffer_packets.ensures.reads.0 (all_true _ _ c.in_ok-max_flushed_packets.ensures.reads.0 (all_true _ _ c.in_ok-max_input_packets.ensures.reads.0 (all_true _ _ c.in_ok-threads.ensures.0 refl)))))))
      refl,
  general-same _ _ _ _ _ _ _ _ _ _ _ _ _ _ _ _ _ _ _ _ _ _ _ _
      c.in_ok-add_start_stuffing.ensures.reads.1
      c.in_ok-add_stop_stuffing.ensures.reads.1
      (c.unwrap_or.ensures ∙ ap (λ (o : Option (ℕ × ℕ)). unwrap_or o (0, 1)) c.in_ok-between.ensures.reads.1)
      c.in_ok-buffer_packets.ensures.reads.1
      c.in_ok-max_flushed_packets.ensures.reads.1
      c.in_ok-max_input_packets.ensures.reads.1
      c.has_flag-ignore_joint_termination.ensures
      c.has_flag-bare.ensures
      c.has_flag-endless.ensures
      c.has_flag-fail_on_faults.ensures
      c.has_flag-live.ensures
      c.in_ok-threads.ensures.1,
)
