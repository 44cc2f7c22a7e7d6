-- The words of a command line of `tstabcomp`, without the program's name: a task, and at most two names.
-- This project's own rule.
use Rattle.std.specs.Prelude.{◌≡◌, ℕ, List, [], ◌∷◌, codes, if◌then◌else◌, Option, Some, None, Result, Ok, Err}
use Rattle.std.specs.Str.{bytes_eq}
use Rattle.tabcomp_top.specs.declared.task.Task.{Task}
use Rattle.tabcomp_top.specs.declared.task.Task.TheVariants.{Compile, Decompile, Canonical}
use Rattle.tabcomp_top.specs.declared.job.Job as held

-- the task, and the names of the input and of the output
pub record Job : Type 0 where
  pub task : Task
  pub input : List ℕ
  pub output : List ℕ

-- the task of a word
abbrev pub task_of : List ℕ → Option Task
task_of word =
    if bytes_eq word (codes "--compile") then Some Compile
    else (if bytes_eq word (codes "--decompile") then Some Decompile
    else (if bytes_eq word (codes "--canonical") then Some Canonical else None))

-- the task with the names after its word. An absent name is the empty one, and that is the standard stream;
-- of three names or more the third, which is word 3, is one too many
abbrev pub job_with : Task → List (List ℕ) → Result Job ℕ
job_with task [] = Ok (record { task = task; input = []; output = [] })
job_with task (input ∷ []) = Ok (record { task = task; input = input; output = [] })
job_with task (input ∷ (output ∷ [])) = Ok (record { task = task; input = input; output = output })
job_with task (input ∷ (output ∷ (third ∷ more))) = Err 3

-- the task with the names after its word, or the refusal of that word
abbrev pub job_after : Option Task → List (List ℕ) → Result Job ℕ
job_after None names = Err 0
job_after (Some task) names = job_with task names

-- what the words ask for, or the number, from 0, of the first that breaks the form; 0 where there is no word
abbrev pub job_of : List (List ℕ) → Result Job ℕ
job_of [] = Err 0
job_of (word ∷ names) = job_after (task_of word) names

-- what a job in the code asks for
abbrev pub meant : held.Job → Job
meant job = record { task = job.task; input = job.input.now; output = job.output.now }

-- a call returned what the words ask for, or the word that breaks the form
abbrev pub MeansJob : Result held.Job ℕ → Result Job ℕ → Type 0
MeansJob (Ok job) asked = asked ≡ Ok (meant job)
MeansJob (Err word) asked = asked ≡ Err word
