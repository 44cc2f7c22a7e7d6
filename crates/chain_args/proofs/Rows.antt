-- Worked rows of words, on the definitions alone.
use Rattle.std.proofs.Common.{None, ◌≡◌, [], ◌∷◌, Some, codes, false, true, refl}
use Rattle.clap.proofs.OnLiterals.{clap_on_literals}
use Rattle.plugin_settings.specs.declared.plugin_conf.PluginConf.TheVariants.{Filter}
use Rattle.plugin_options.specs.Number.{number_of, number_within}
use Rattle.plugin_options.specs.Options.{findings, has_flag, is_taken, value_of, values_of}
use Rattle.plugin_options.specs.Pairs.{pair_of}
use Rattle.chain_args.specs.PlanOf.{plan_of}
use Rattle.plugin_options.specs.Ranges.{range_of, ranges_of}
use Rattle.chain_args.specs.Rules.{first_fault, first_word_fault}
use Rattle.chain_args.specs.Segments.{cut}
use Rattle.chain_args.specs.declared.input_conf.InputConf.TheVariants.{Null}
use Rattle.chain_args.specs.declared.output_conf.OutputConf.TheVariants.{Drop}
use Rattle.chain_args.specs.declared.stage_threads.StageThreads.TheVariants.{Auto, One}
use Rattle.plugin_options.specs.declared.words_rule.WordsRule.TheVariants.{Missing, Shape, Value}

-- `filter` with no condition
no-condition : first_word_fault (codes "-I" ∷ codes "null" ∷ codes "2" ∷ codes "-P" ∷ codes "filter" ∷ codes "-O" ∷ codes "drop" ∷ []) ≡ Some (3, Missing)
unfolding clap_on_literals cut findings first_fault first_word_fault has_flag is_taken number_of number_within pair_of plan_of range_of ranges_of value_of values_of
no-condition = refl

-- an option that stands twice
twice-the-pid : first_word_fault (codes "-I" ∷ codes "null" ∷ codes "2" ∷ codes "-P" ∷ codes "filter" ∷ codes "--pid" ∷ codes "1" ∷ codes "--pid" ∷ codes "2" ∷ []) ≡ Some (3, Shape)
unfolding clap_on_literals cut findings first_fault first_word_fault has_flag is_taken number_of number_within pair_of plan_of range_of ranges_of value_of values_of
twice-the-pid = refl

-- a number in hexadecimal digits, labels to be set and those of the packets that the plugin sees
hexadecimal-pid : plan_of (codes "-I" ∷ codes "null" ∷ codes "4" ∷ codes "-P" ∷ codes "filter" ∷ codes "--pid=0x1FFF" ∷ codes "--set-label=3" ∷ codes "--only-label=0-1" ∷ codes "-O" ∷ codes "drop" ∷ [])
    ≡ Some (record {
      general = record {
        add_start_stuffing = 0;
        add_stop_stuffing = 0;
        add_input_stuffing = (0, 1);
        buffer_packets = None;
        max_flushed_packets = None;
        max_input_packets = None;
        ignore_joint_termination = false;
        bare = false;
        endless = false;
        fail_on_faults = false;
        live = false;
        threads = Auto;
      };
      input = Null 4;
      plugins = record {
        conf = Filter (record {
          pid = (8191, 8191) ∷ [];
          pcr = false;
          unit_start = false;
          scrambled = false;
          label = [];
          negate = false;
          stuffing = false;
          set_label = (3, 3) ∷ [];
        });
        every = None;
        counts = true;
        only = Some ((0, 1) ∷ []);
      } ∷ [];
      output = Drop;
    })
unfolding clap_on_literals cut findings first_fault first_word_fault has_flag is_taken number_of number_within pair_of plan_of range_of ranges_of value_of values_of
hexadecimal-pid = refl

-- one thread by choice, and the program's choice by its word
one-thread : plan_of (codes "--threads" ∷ codes "1" ∷ codes "-I" ∷ codes "null" ∷ codes "4" ∷ codes "-O" ∷ codes "drop" ∷ [])
    ≡ Some (record {
      general = record {
        add_start_stuffing = 0;
        add_stop_stuffing = 0;
        add_input_stuffing = (0, 1);
        buffer_packets = None;
        max_flushed_packets = None;
        max_input_packets = None;
        ignore_joint_termination = false;
        bare = false;
        endless = false;
        fail_on_faults = false;
        live = false;
        threads = One;
      };
      input = Null 4;
      plugins = [];
      output = Drop;
    })
unfolding clap_on_literals cut findings first_fault first_word_fault has_flag is_taken number_of number_within pair_of plan_of value_of values_of
one-thread = refl

auto-by-name : first_word_fault (codes "--threads=auto" ∷ codes "-I" ∷ codes "null" ∷ codes "4" ∷ []) ≡ None
unfolding clap_on_literals cut findings first_fault first_word_fault has_flag is_taken number_of number_within pair_of value_of values_of
auto-by-name = refl

-- another number of threads, and another spelling of the number 1
two-threads : first_word_fault (codes "--threads" ∷ codes "2" ∷ codes "-I" ∷ codes "null" ∷ codes "4" ∷ []) ≡ Some (0, Value)
unfolding clap_on_literals cut findings first_fault first_word_fault has_flag is_taken number_of number_within pair_of value_of values_of
two-threads = refl

two-digits : first_word_fault (codes "--threads=01" ∷ codes "-I" ∷ codes "null" ∷ codes "4" ∷ []) ≡ Some (0, Value)
unfolding clap_on_literals cut findings first_fault first_word_fault has_flag is_taken number_of number_within pair_of value_of values_of
two-digits = refl
