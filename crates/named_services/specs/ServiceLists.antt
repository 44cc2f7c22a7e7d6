-- The services of a command line.
-- ISO/IEC 13818-1, 2.4.4.5: a program_number has 16 bits. That a service that is named twice counts once is this project's
-- own rule.
use Rattle.std.specs.Prelude.{ℕ, ◌==◌, ◌++◌, ◌∷◌, [], Bool, List, fold, if◌then◌else◌}
use Rattle.std.specs.List.{list_any}

-- whether a number is that of one of the services
abbrev pub is_one : List ℕ → ℕ → Bool
is_one services id = list_any (λ service. id == service) services

-- services with one more, unless it is one of them
abbrev pub with_service : List ℕ → ℕ → List ℕ
with_service services id = if is_one services id then services else services ++ id ∷ []

-- the services that numbers name: each once, in the order in which they are first there
abbrev pub each_once : List ℕ → List ℕ
each_once numbers = fold with_service [] numbers
