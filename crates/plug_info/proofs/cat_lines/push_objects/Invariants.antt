use Rattle.std.proofs.Common.{◌≡◌, ◌++◌, drop, map}
use Rattle.std.specs.List.{flat_map}
use Rattle.std.specs.String.{string_bytes}
use Rattle.plug_info_texts.specs.InfoJson.{after_comma}
use Rattle.plug_info.specs.InfoRule.{system_object}
use Rattle.plug_info.proofs.cat_lines.push_objects.Given as goal

-- the items so far, with the systems that are left
abbrev pub invariant-loop-system : goal.invariant-loop-system
invariant-loop-system l =
    string_bytes l.items ++ flat_map after_comma (map system_object (drop l.system-index l.systems))
    ≡ string_bytes l.fn.items ++ flat_map after_comma (map system_object l.systems)
