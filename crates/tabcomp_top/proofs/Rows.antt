-- Worked rows, computed on the definitions.
use Rattle.std.proofs.Common.{◌≡◌, [], ◌∷◌, ◌++◌, codes, Ok, Err, refl}
use Rattle.tabcomp_top.specs.TabWords.{job_of}
use Rattle.tabcomp_top.specs.StatusText.{line_of}
use Rattle.tabcomp_top.specs.declared.task.Task.TheVariants.{Compile, Decompile, Canonical}
use Rattle.tabcomp_top.specs.declared.status.TabStatus.TheVariants.{Done, Words}

-- no word, no task, and one name too many
no-words : job_of [] ≡ Err 0
no-words = refl

no-task : job_of (codes "compile" ∷ []) ≡ Err 0
no-task = refl

one-too-many : job_of (codes "--compile" ∷ codes "a" ∷ codes "b" ∷ codes "c" ∷ []) ≡ Err 3
one-too-many = refl

-- the standard streams, a file that begins with a dash, and both names
both-streams : job_of (codes "--decompile" ∷ []) ≡ Ok (record { task = Decompile; input = []; output = [] })
both-streams = refl

one-name : job_of (codes "--canonical" ∷ codes "--compile" ∷ []) ≡ Ok (record { task = Canonical; input = codes "--compile"; output = [] })
one-name = refl

two-names : job_of (codes "--compile" ∷ [] ∷ codes "b" ∷ []) ≡ Ok (record { task = Compile; input = []; output = codes "b" })
two-names = refl

-- the line of faulty words, and none of a call that is done
words-line : line_of (Words 3) ≡ codes "tstabcomp: words" ++ 10 ∷ []
words-line = refl

done-line : line_of Done ≡ []
done-line = refl
