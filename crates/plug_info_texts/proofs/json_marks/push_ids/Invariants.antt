use Rattle.std.proofs.Common.{◌≡◌, ◌++◌, drop, map}
use Rattle.std.specs.Fmt.{decimal}
use Rattle.std.specs.List.{flat_map}
use Rattle.std.specs.String.{string_bytes}
use Rattle.plug_info_texts.specs.InfoJson.{after_comma}
use Rattle.plug_info_texts.proofs.json_marks.push_ids.Given as goal

-- the items so far, with the ids that are left
abbrev pub invariant-loop-id : goal.invariant-loop-id
invariant-loop-id l =
    string_bytes l.items ++ flat_map after_comma (map decimal (drop l.id-index l.ids)) ≡ string_bytes l.fn.items ++ flat_map after_comma (map decimal l.ids)
