-- A source of a file's packets, which are at their places or are found again. This project's own rule.
use Rattle.std.specs.Prelude.{◌≡◌, Option, None, Some}
use Rattle.ts_outside.specs.Source.{SourceView}
use Rattle.packet_forms.specs.FormView.{ReadsThrough}
use Rattle.packet_search.specs.Rule.{deciding_bytes}
use Rattle.search_source.specs.declared.file_source.FileSource.{FileSource}
use Rattle.search_source.specs.declared.file_source.FileSource.TheVariants.{Placed, Found}
use Rattle.search_source.specs.declared.file_source.KeptGaps.{KeptGaps}
use Rattle.search_source.specs.SearchView.{SearchView, plain}
use Rattle.search_source.specs.Kept.{KeptTo}
use Rattle.search_source.specs.Since.{EndsKnown}

-- what is seen of the one that it is
abbrev pub of_either : {P F A : Type 0} → (P → A) → (F → A) → FileSource P F → A
of_either placed found (Placed source) = placed source
of_either placed found (Found source) = found source

-- how it and the file's own source stand to each other at the end, and which gaps were kept, of packets in which form:
-- none of packets at their places
abbrev pub EndsAs : SourceView → SourceView → Option KeptGaps → Type 0
EndsAs outer inner None = ReadsThrough outer inner
EndsAs outer inner (Some kept) =
    (view : SearchView) × (outer ≡ plain view) × (outer.origin.unit ≡ deciding_bytes kept.form)
    × KeptTo view inner kept.lost kept.gaps.items kept.number kept.behind kept.over
    × EndsKnown kept.form outer.origin.bytes kept.behind kept.over
