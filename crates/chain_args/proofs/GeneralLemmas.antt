-- General options that agree in each value are the same.
use Rattle.std.proofs.Common.{◌≡◌, ℕ, Bool, Option}
use Rattle.chain_args.specs.declared.general_conf.GeneralConf.{GeneralConf}
use Rattle.chain_args.specs.declared.stage_threads.StageThreads.{StageThreads}

-- the general options with these values
abbrev pub general_of : ℕ → ℕ → ℕ × ℕ → Option ℕ → Option ℕ → Option ℕ → Bool → Bool → Bool → Bool → Bool → StageThreads → GeneralConf
general_of start stop between buffer flushed taken ignored bare endless failing live threads = record {
  add_start_stuffing = start;
  add_stop_stuffing = stop;
  add_input_stuffing = between;
  buffer_packets = buffer;
  max_flushed_packets = flushed;
  max_input_packets = taken;
  ignore_joint_termination = ignored;
  bare = bare;
  endless = endless;
  fail_on_faults = failing;
  live = live;
  threads = threads;
}

pub general-same : (start start2 : ℕ) (stop stop2 : ℕ) (between between2 : ℕ × ℕ) (buffer buffer2 : Option ℕ) (flushed flushed2 : Option ℕ) (taken taken2 : Option ℕ) (ignored ignored2 : Bool) (bare bare2 : Bool) (endless endless2 : Bool) (failing failing2 : Bool) (live live2 : Bool) (threads threads2 : StageThreads)
    → start ≡ start2 → stop ≡ stop2 → between ≡ between2 → buffer ≡ buffer2 → flushed ≡ flushed2 → taken ≡ taken2 → ignored ≡ ignored2 → bare ≡ bare2 → endless ≡ endless2 → failing ≡ failing2 → live ≡ live2 → threads ≡ threads2
    → general_of start stop between buffer flushed taken ignored bare endless failing live threads ≡ general_of start2 stop2 between2 buffer2 flushed2 taken2 ignored2 bare2 endless2 failing2 live2 threads2
general-same start start2 stop stop2 between between2 buffer buffer2 flushed flushed2 taken taken2 ignored ignored2 bare bare2 endless endless2 failing failing2 live live2 threads threads2 e0 e1 e2 e3 e4 e5 e6 e7 e8 e9 e10 e11 = cc (e0, e1, e2, e3, e4, e5, e6, e7, e8, e9, e10, e11)
