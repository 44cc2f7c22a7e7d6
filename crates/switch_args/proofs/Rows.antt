-- Worked rows of the words of `tsswitch`, computed on the definitions.
use Rattle.std.proofs.Common.{◌≡◌, [], ◌∷◌, Bool, true, false, None, Some, refl}
use Rattle.std.specs.Prelude.{codes}
use Rattle.plugin_options.specs.Number.{number_within, number_of}
use Rattle.switch_args.specs.SwitchWords.{read_of, to_file, dropped}

two-inputs : read_of (codes "--cycle" ∷ codes "2" ∷ codes "-I" ∷ codes "file" ∷ codes "A" ∷ codes "-I" ∷ codes "file" ∷ codes "B" ∷ codes "-O" ∷ codes "file" ∷ codes "C" ∷ [])
    ≡ Some (record { cycle = Some 2; buffer = None; resync = false; inputs = codes "A" ∷ codes "B" ∷ []; output = to_file (codes "C") })
unfolding number_within number_of
two-inputs = refl

dropped-packets : read_of (codes "--buffer-packets" ∷ codes "0x10" ∷ codes "-I" ∷ codes "file" ∷ codes "A" ∷ codes "-O" ∷ codes "drop" ∷ [])
    ≡ Some (record { cycle = None; buffer = Some 16; resync = false; inputs = codes "A" ∷ []; output = dropped })
unfolding number_within number_of
dropped-packets = refl

-- the inputs are played at least once
never-played : read_of (codes "--cycle" ∷ codes "0" ∷ codes "-I" ∷ codes "file" ∷ codes "A" ∷ []) ≡ None
unfolding number_within number_of
never-played = refl

found-again : read_of (codes "--resync" ∷ codes "--cycle" ∷ codes "2" ∷ codes "-I" ∷ codes "file" ∷ codes "A" ∷ [])
    ≡ Some (record { cycle = Some 2; buffer = None; resync = true; inputs = codes "A" ∷ []; output = to_file [] })
unfolding number_within number_of
found-again = refl

-- the flag stands once, and in front of the inputs
flag-twice : read_of (codes "--resync" ∷ codes "--resync" ∷ codes "-I" ∷ codes "file" ∷ codes "A" ∷ []) ≡ None
flag-twice = refl

flag-behind : read_of (codes "-I" ∷ codes "file" ∷ codes "A" ∷ codes "--resync" ∷ []) ≡ None
flag-behind = refl
