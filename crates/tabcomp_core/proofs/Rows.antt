-- Worked rows, computed on the definitions.
use Rattle.std.proofs.Common.{◌≡◌, [], codes, true, false, Ok, Err, refl}
use Rattle.tabcomp_core.specs.declared.fault.CompileFault.TheVariants.{NotJson}
use Rattle.tabcomp_core.specs.Cutting.{sections_from}
use Rattle.tabcomp_core.specs.declared.table_file_fault.TableFileFault.TheVariants.{Compile}
use Rattle.tabcomp_core.specs.TableFiles.{is_json_name, of_compiled, sections_of_file}

-- the ending counts letter by letter, also where it is the whole name, and not in the middle
text : is_json_name (codes "t.json") ≡ true
text = refl

ending-alone : is_json_name (codes ".json") ≡ true
ending-alone = refl

great-letters : is_json_name (codes "t.JSON") ≡ false
great-letters = refl

in-the-middle : is_json_name (codes "t.json.bin") ≡ false
in-the-middle = refl

too-short : is_json_name (codes "json") ≡ false
too-short = refl

standard-input : is_json_name [] ≡ false
standard-input = refl

-- a file without bytes has no sections, and is valid
empty-file : sections_of_file (codes "e.bin") [] ≡ Ok []
unfolding sections_of_file sections_from
empty-file = refl

-- what has no compilation has no sections
no-json : of_compiled (Err NotJson) ≡ Err (Compile NotJson)
no-json = refl
