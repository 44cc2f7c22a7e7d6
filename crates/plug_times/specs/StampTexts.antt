-- The lines of `timestamps`. This project's own rule.
use Rattle.std.specs.Prelude.{ℕ, List, [], ◌∷◌, ◌++◌, codes, Bool, ◌||◌, not, Option, None, Some, if◌then◌else◌}
use Rattle.std.specs.Fmt.{decimal}
use Rattle.plugin_trait.specs.declared.line.Line.{Line}
use Rattle.plugin_trait.specs.PlacedLines.{placed_at}
use Rattle.plug_times.specs.declared.shown.Shown.{Shown}
use Rattle.plug_times.specs.declared.stamp.Stamp.{Stamp}

-- which values are shown: those that are asked for, and all where none is
abbrev pub shown_of : Bool → Bool → Bool → Bool → Shown
shown_of pcr pts dts csv = record {
  clocks = pcr || not (pcr || (pts || dts));
  presentation = pts || not (pcr || (pts || dts));
  decoding = dts || not (pcr || (pts || dts));
  csv = csv;
}

-- the line of a value: `packet <n> pid <pid> <kind> <value>`, or the four separated by commas
abbrev pub value_text : Bool → List ℕ → ℕ → ℕ → ℕ → List ℕ
value_text csv kind at pid value =
    if csv
    then decimal at ++ (codes "," ++ (decimal pid ++ (codes "," ++ (kind ++ (codes "," ++ decimal value)))))
    else codes "packet " ++ (decimal at ++ (codes " pid " ++ (decimal pid ++ (codes " " ++ (kind ++ (codes " " ++ decimal value))))))

-- that line, where there is such a value and its kind is shown
abbrev pub value_texts : Bool → List ℕ → Bool → ℕ → ℕ → Option ℕ → List (List ℕ)
value_texts csv kind is_shown at pid None = []
value_texts csv kind is_shown at pid (Some value) = if is_shown then value_text csv kind at pid value ∷ [] else []

-- the lines of what a packet tells: PCR, PTS, DTS
abbrev pub stamp_texts : Shown → Stamp → List (List ℕ)
stamp_texts shown stamp =
    value_texts shown.csv (codes "pcr") shown.clocks stamp.at stamp.pid stamp.clock
    ++ (value_texts shown.csv (codes "pts") shown.presentation stamp.at stamp.pid stamp.times.presentation
    ++ value_texts shown.csv (codes "dts") shown.decoding stamp.at stamp.pid stamp.times.decoding)

-- these lines at the position of the packet
abbrev pub lines_of_stamp : Shown → Stamp → List Line
lines_of_stamp shown stamp = placed_at stamp.at (stamp_texts shown stamp)

-- the position of what a packet tells, and its PID
abbrev pub place_of : Stamp → ℕ
place_of stamp = stamp.at

abbrev pub pid_in : Stamp → ℕ
pid_in stamp = stamp.pid
