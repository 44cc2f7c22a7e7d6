-- The type, the provider and the name of a service, in the body of its service_descriptor. ETSI EN 300 468, 6.2.33.
use Rattle.std.specs.Prelude.{ℕ, List, [], ◌∷◌, length, take, drop, nat_le, Option, None, Some, if◌then◌else◌}

-- the bytes after a length of one byte, if all are there
abbrev pub counted_text : List ℕ → Option (List ℕ)
counted_text [] = None
counted_text (n ∷ bytes) = if nat_le n (length bytes) then Some (take n bytes) else None

-- the bytes after these
abbrev pub after_text : List ℕ → List ℕ
after_text [] = []
after_text (n ∷ bytes) = drop n bytes

-- service_type in the body of a service_descriptor
abbrev pub type_in : Option (List ℕ) → Option ℕ
type_in None = None
type_in (Some []) = None
type_in (Some (kind ∷ bytes)) = Some kind

-- service_provider_name in the body of a service_descriptor
abbrev pub provider_in : Option (List ℕ) → Option (List ℕ)
provider_in None = None
provider_in (Some body) = counted_text (drop 1 body)

-- service_name in the body of a service_descriptor
abbrev pub name_in : Option (List ℕ) → Option (List ℕ)
name_in None = None
name_in (Some body) = counted_text (after_text (drop 1 body))
