-- Lemmas on lists of items in JSON, and on the parts of objects.
use Rattle.std.proofs.Common.{◌≡◌, ℕ, List, [], ◌∷◌, ◌++◌, map, ap, ◌∙◌, refl, Option}
use Rattle.std.specs.List.{flat_map}
use Rattle.plug_info_texts.specs.InfoJson.{component_tail, service_tail, whole_json}
use Rattle.plug_info_texts.specs.declared.pid_numbers.PidNumbers.{PidNumbers}
use Rattle.plug_info_texts.specs.declared.scene.Scene.{Scene}

-- a map within a `flat_map`
pub flat_map_map : {X Y Z : Type 0} (g : Y → List Z) (f : X → Y) (xs : List X) → flat_map (λ x. g (f x)) xs ≡ flat_map g (map f xs)
flat_map_map g f [] = refl
flat_map_map g f (x ∷ xs) = ap (λ zs. g (f x) ++ zs) (flat_map_map g f xs)

-- the end of a component's object, each part of which is known
pub tail_is : (scene scene_new : Scene) (numbers numbers_new : PidNumbers) (users users_new : ℕ) → scene ≡ scene_new → numbers ≡ numbers_new → users ≡ users_new
    → component_tail scene numbers users ≡ component_tail scene_new numbers_new users_new
tail_is scene scene_new numbers numbers_new users users_new a b c =
    ap (λ (s : Scene). component_tail s numbers users) a
    ∙ (ap (λ (n : PidNumbers). component_tail scene_new n users) b ∙ ap (component_tail scene_new numbers_new) c)

pub service_tail_is : (pid : ℕ) (pcr pcr_new : Option ℕ) (portion portion_new components components_new : List ℕ) → pcr ≡ pcr_new → portion ≡ portion_new
    → components ≡ components_new → service_tail pid pcr portion components ≡ service_tail pid pcr_new portion_new components_new
service_tail_is pid pcr pcr_new portion portion_new components components_new a b c =
    ap (λ (o : Option ℕ). service_tail pid o portion components) a
    ∙ (ap (λ (p : List ℕ). service_tail pid pcr_new p components) b ∙ ap (service_tail pid pcr_new portion_new) c)

pub whole_is : (stream stream_new sdt sdt_new cas cas_new services services_new pids pids_new : List ℕ) → stream ≡ stream_new → sdt ≡ sdt_new → cas ≡ cas_new
    → services ≡ services_new → pids ≡ pids_new → whole_json stream sdt cas services pids ≡ whole_json stream_new sdt_new cas_new services_new pids_new
whole_is stream stream_new sdt sdt_new cas cas_new services services_new pids pids_new a b c d e =
    ap (λ (x : List ℕ). whole_json x sdt cas services pids) a
    ∙ (ap (λ (x : List ℕ). whole_json stream_new x cas services pids) b
    ∙ (ap (λ (x : List ℕ). whole_json stream_new sdt_new x services pids) c
    ∙ (ap (λ (x : List ℕ). whole_json stream_new sdt_new cas_new x pids) d ∙ ap (whole_json stream_new sdt_new cas_new services_new) e)))
