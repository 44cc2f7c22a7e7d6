-- What the reading of table files comes to, file by file.
use Rattle.std.proofs.Common.{◌≡◌, ℕ, zero, suc, ◌+◌, ◌<◌, List, [], ◌∷◌, ◌++◌, length, replicate, map, take, Bool, Option, None, Some, IfSome, IsErrAnd, MatchResult, Result, Ok, Err, Vec, Global, refl, ap, sym, ◌∙◌, subst, inl, inr, arith, append_assoc, append-nil}
use Rattle.std.proofs.lemmas.List.{map-append, take_all, length-replicate}
use Rattle.std.proofs.Math.Seq.{take-append-add}
use Rattle.plugin_settings.specs.declared.plugin_item.PluginItem.{PluginItem}
use Rattle.plugin_settings.specs.Plugins.{table_file_of}
use Rattle.tabcomp_core.specs.declared.table_file_fault.TableFileFault.{TableFileFault}
use Rattle.tabcomp_core.specs.declared.table_file_fault.TableFileFault.TheVariants.{TooMany}
use Rattle.tabcomp_core.specs.TableFiles.{most_bytes}
use Rattle.tabcomp_core.proofs.FaultLemmas.{too-long}
use Rattle.ts_outside.specs.declared.faults.FileFault.{FileFault}
use Rattle.ts_outside.specs.declared.faults.FileFault.TheVariants as reading
use Rattle.ts_outside.specs.FileFault.{MatchFile}
use Rattle.ts_outside.specs.declared.requests.Purpose.TheVariants.{File}
use Rattle.ts_outside.specs.Told.{grown}
use Rattle.ts_outside.specs.declared.requests.Asked.{Asked}
use Rattle.ts_outside.specs.Desk.{DeskView, asked_in_vain, content}
use Rattle.ts_outside.proofs.Views.{grown-nil, grown-grown}
use Rattle.ts_outside.specs.Saying.{Says}
use Rattle.tsp_top.specs.PlannedTables.{HasSections, IsTable, AreTables, ReadsTables, file_asked, files_asked, name_if_any, table_files}
use Rattle.tsp_top.specs.TableEnds.{unread, refused, table_line, EndsAtPlugin, WantsAtTables, IsOverAtTable, IsOverAtPlugin, IsOverAtTables, RefusesTable}
use Rattle.tsp_top.specs.declared.status.Status.{Status}
use Rattle.tsp_top.specs.declared.status.Status.TheVariants.{NoMemory, ReadFault}

-- a desk at which no file was asked for, and one at which files were in two parts
pub files_asked-nil : (d : DeskView) → files_asked d [] ≡ d
files_asked-nil d = ap (λ (o : Option (List Asked)). record d { asked = o }) (grown-nil d.asked)

pub files_asked-append : (d : DeskView) (a b : List (List ℕ)) → files_asked (files_asked d a) b ≡ files_asked d (a ++ b)
files_asked-append d a b =
    ap (λ (o : Option (List Asked)). record d { asked = o })
    (grown-grown d.asked (map file_asked a) (map file_asked b) ∙ ap (λ (l : List Asked). grown d.asked l) (sym (map-append file_asked a b)))

pub table_files-append : (xs ys : List PluginItem) → table_files (xs ++ ys) ≡ table_files xs ++ table_files ys
table_files-append [] ys = refl
table_files-append (x ∷ xs) ys =
    ap (λ (l : List (List ℕ)). name_if_any (table_file_of x.conf) ++ l) (table_files-append xs ys)
    ∙ sym (append_assoc (name_if_any (table_file_of x.conf)) (table_files xs) (table_files ys))

-- the files of one more plugin
pub table_files-push : (xs : List PluginItem) (x : PluginItem) → table_files (xs ++ x ∷ []) ≡ table_files xs ++ name_if_any (table_file_of x.conf)
table_files-push xs x =
    table_files-append xs (x ∷ []) ∙ ap (λ (l : List (List ℕ)). table_files xs ++ l) (append-nil (name_if_any (table_file_of x.conf)))

-- its table after those of the others
AreTables-push : (d : DeskView) (xs : List PluginItem) (x : PluginItem) (tables : List (List (List ℕ))) (table : List (List ℕ))
    → AreTables d xs tables → IsTable d (table_file_of x.conf) table → AreTables d (xs ++ x ∷ []) (tables ++ table ∷ [])
AreTables-push d [] x [] table are is = (is, tt)
AreTables-push d [] x (t ∷ tables) table are is = absurd are
AreTables-push d (y ∷ xs) x [] table are is = absurd are
AreTables-push d (y ∷ xs) x (t ∷ tables) table are is = (are.0, AreTables-push d xs x tables table are.1 is)

-- the known files are the same when others were asked for
IsTable-asked : (d : DeskView) (names : List (List ℕ)) (file : Option (List ℕ)) (table : List (List ℕ)) → IsTable (files_asked d names) file table → IsTable d file table
IsTable-asked d names None table is = is
IsTable-asked d names (Some name) table is = record { bytes = is.bytes; told = is.told; are = is.are }

-- memory ran out before any file was asked for, and after all of them
pub wants-same : (names : List (List ℕ)) (old new : DeskView) → new ≡ old → WantsAtTables names old new NoMemory
wants-same names old new same = record { status_is = refl; count = 0; desk_is = same ∙ sym (files_asked-nil old) }

pub wants-all : (names : List (List ℕ)) (old new : DeskView) → new ≡ files_asked old names → WantsAtTables names old new NoMemory
wants-all names old new is = record {
  status_is = refl;
  count = length names;
  desk_is = is ∙ ap (λ (l : List (List ℕ)). files_asked old l) (sym (take_all (length names) names (omega arith)));
}

-- some bytes, more than a number of them
long-list : (n : ℕ) → (bytes : List ℕ) × (n < length bytes)
long-list n =
    let bytes : List ℕ = replicate (suc n) 0 in
    let long : length bytes ≡ suc n = length-replicate (suc n) 0 in (bytes, subst (λ (m : ℕ). n < m) (sym long) (omega arith))

-- a file of too many bytes is refused for these
long-file : (file : Option (List ℕ)) → IfSome file (λ told. most_bytes < length told) → (bytes : List ℕ) × IfSome file (λ told. bytes ≡ told) × (most_bytes < length bytes)
long-file None long = let some = long-list most_bytes in (some.0, tt, some.1)
long-file (Some told) long = (told, refl, long)

pub too-many : (desk : DeskView) (name : List ℕ) → IfSome (content desk name) (λ told. most_bytes < length told) → HasSections desk name (Err TooMany)
too-many desk name long =
    let some = long-file (content desk name) long in
    record { bytes = some.0; told = some.1; are = too-long name some.0 some.2 }

-- what is said of a reading by its answer
pub read-too-many : {T : Type 0} (P : T → Type 0) (Q R S : Type 0) (e : FileFault) → e ≡ reading.TooMany → MatchFile (Err e) P Q R S → Q
read-too-many P Q R S e is h = subst (λ (f : FileFault). MatchFile (Err f) P Q R S) is h

pub read-failed : {T : Type 0} (P : T → Type 0) (Q R S : Type 0) (e : FileFault) → e ≡ reading.Failed → MatchFile (Err e) P Q R S → R
read-failed P Q R S e is h = subst (λ (f : FileFault). MatchFile (Err f) P Q R S) is h

pub read-no-memory : {T : Type 0} (P : T → Type 0) (Q R S : Type 0) (e : FileFault) → e ≡ reading.NoMemory → MatchFile (Err e) P Q R S → S
read-no-memory P Q R S e is h = subst (λ (f : FileFault). MatchFile (Err f) P Q R S) is h

-- a file that was asked for ended the call
pub refused-ends : (plugin : ℕ) (name : List ℕ) (fault : TableFileFault) (old asked new : DeskView) (status : Status)
    → asked ≡ files_asked old (name ∷ []) → HasSections old name (Err fault) → RefusesTable plugin fault asked new status → IsOverAtTable plugin name old new status
refused-ends plugin name fault old asked new status is has (inl told) = inl (record {
  end = refused fault;
  can_end = has;
  status_is = told.1;
  failed = told.0;
  desk_is = subst (λ (d : DeskView). Says d new (table_line plugin (refused fault)) told.0) is told.2;
})
refused-ends plugin name fault old asked new status is has (inr wants) = inr (record { status_is = wants.0; count = 1; desk_is = wants.1 ∙ is })

pub unread-ends : (plugin : ℕ) (name : List ℕ) (old asked new : DeskView) (failed : Bool)
    → asked ≡ asked_in_vain old File name → Says asked new (table_line plugin unread) failed → IsOverAtTable plugin name old new ReadFault
unread-ends plugin name old asked new failed is says = inl (record {
  end = unread;
  can_end = tt;
  status_is = refl;
  failed = failed;
  desk_is = subst (λ (d : DeskView). Says d new (table_line plugin unread) failed) is says;
})

-- the first names of a plugin's are the first of them and more
first-names : (file : Option (List ℕ)) (k : ℕ) (more : List (List ℕ)) → (m : ℕ) × (take m (name_if_any file ++ more) ≡ take k (name_if_any file))
first-names None zero more = (0, refl)
first-names None (suc k) more = (0, refl)
first-names (Some name) zero more = (0, refl)
first-names (Some name) (suc k) more = (1, sym (take_all (suc k) (name ∷ []) (omega arith)))

-- a state of the reading: the plugins so far were read
module _ (before : List PluginItem) (tables : List (List (List ℕ))) (old desk : DeskView) (so_far : ReadsTables before tables old desk) (item : PluginItem) (rest : List PluginItem) where
  names-are : table_files (before ++ item ∷ rest) ≡ table_files before ++ (name_if_any (table_file_of item.conf) ++ table_files rest)
  names-are = table_files-append before (item ∷ rest)

  -- the next one ended the call
  pub ends-behind : (plugin : ℕ) (new : DeskView) (status : Status) → plugin ≡ length before + 1 → IsOverAtPlugin plugin item desk new status → IsOverAtTables (before ++ item ∷ rest) old new status
  ends-behind plugin new status number (inl ends) = inl (record {
    before = before;
    item = item;
    behind = rest;
    items_are = refl;
    tables = tables;
    tables_are = so_far.are;
    ends = subst (λ (n : ℕ). EndsAtPlugin n item (files_asked old (table_files before)) new status) number
        (subst (λ (d : DeskView). EndsAtPlugin plugin item d new status) so_far.asked ends);
  })
  ends-behind plugin new status number (inr wants) =
      let file : Option (List ℕ) = table_file_of item.conf in
      let some = first-names file wants.count (table_files rest) in
      let first : take (length (table_files before) + some.0) (table_files (before ++ item ∷ rest)) ≡ table_files before ++ take wants.count (name_if_any file) =
      ap (λ (l : List (List ℕ)). take (length (table_files before) + some.0) l) names-are
      ∙ take-append-add (table_files before) (name_if_any file ++ table_files rest) some.0
      ∙ ap (λ (l : List (List ℕ)). table_files before ++ l) some.1 in
      inr (record {
        status_is = wants.status_is;
        count = length (table_files before) + some.0;
        desk_is = wants.desk_is
            ∙ ap (λ (d : DeskView). files_asked d (take wants.count (name_if_any file))) so_far.asked
            ∙ files_asked-append old (table_files before) (take wants.count (name_if_any file))
            ∙ ap (λ (l : List (List ℕ)). files_asked old l) (sym first);
      })

  -- it was read too
  pub reads-one-more : (table : List (List ℕ)) (new : DeskView) → IsTable desk (table_file_of item.conf) table → new ≡ files_asked desk (name_if_any (table_file_of item.conf))
      → ReadsTables (before ++ item ∷ []) (tables ++ table ∷ []) old new
  reads-one-more table new is asked = record {
    are = AreTables-push old before item tables table so_far.are
        (IsTable-asked old (table_files before) (table_file_of item.conf) table (subst (λ (d : DeskView). IsTable d (table_file_of item.conf) table) so_far.asked is));
    asked = asked
        ∙ ap (λ (d : DeskView). files_asked d (name_if_any (table_file_of item.conf))) so_far.asked
        ∙ files_asked-append old (table_files before) (name_if_any (table_file_of item.conf))
        ∙ ap (λ (l : List (List ℕ)). files_asked old l) (sym (table_files-push before item));
  }

-- the sections of a plugin whose settings name a file, and none where they name none
pub named-table : {X : Type 0} (view : X → List (List ℕ)) (r : Result X Status) (plugin : ℕ) (item : PluginItem) (name : List ℕ) (old new : DeskView)
    → Some name ≡ table_file_of item.conf
    → MatchResult r (λ table. HasSections old name (Ok (view table)) × (new ≡ files_asked old (name ∷ []))) (λ status. IsOverAtTable plugin name old new status)
    → MatchResult r (λ table. IsTable old (table_file_of item.conf) (view table) × (new ≡ files_asked old (name_if_any (table_file_of item.conf))))
    (λ status. IsOverAtPlugin plugin item old new status)
named-table view (Ok table) plugin item name old new is read =
    subst (λ (file : Option (List ℕ)). IsTable old file (view table) × (new ≡ files_asked old (name_if_any file))) is read
named-table view (Err status) plugin item name old new is (inl ends) = inl (name, sym is, ends)
named-table view (Err status) plugin item name old new is (inr wants) =
    inr (subst (λ (file : Option (List ℕ)). WantsAtTables (name_if_any file) old new status) is wants)

pub unnamed-table : (old : DeskView) (file : Option (List ℕ)) → None ≡ file → IsTable old file [] × (old ≡ files_asked old (name_if_any file))
unnamed-table old file is =
    subst (λ (f : Option (List ℕ)). IsTable old f [] × (old ≡ files_asked old (name_if_any f))) is (refl, sym (files_asked-nil old))

-- the rest of the plugins were read, or one of them ended the call, after one more
pub rest-read : {X : Type 0} (r : Result X Status) (before : List PluginItem) (item : PluginItem) (rest items : List PluginItem) (tables : List (List (List ℕ))) (old new : DeskView)
    → items ≡ item ∷ rest
    → MatchResult r (λ _. ReadsTables ((before ++ item ∷ []) ++ rest) tables old new) (λ status. IsOverAtTables ((before ++ item ∷ []) ++ rest) old new status)
    → MatchResult r (λ _. ReadsTables (before ++ items) tables old new) (λ status. IsOverAtTables (before ++ items) old new status)
rest-read {X} r before item rest items tables old new is said =
    let M : List PluginItem → Type 0 = λ all. MatchResult r (λ _. ReadsTables all tables old new) (λ status. IsOverAtTables all old new status) in
    let B : List PluginItem → Type 0 = λ l. M (before ++ l) in
    subst B (sym is) (subst M (append_assoc before (item ∷ []) rest) said)

-- the next plugin ended the call, or memory ran out after it
pub ends-at-next : (before : List PluginItem) (tables : List (List (List ℕ))) (old desk new : DeskView) (item : PluginItem) (rest items : List PluginItem) (plugin : ℕ) (status : Status)
    → ReadsTables before tables old desk → plugin ≡ length before + 1 → items ≡ item ∷ rest → IsOverAtPlugin plugin item desk new status → IsOverAtTables (before ++ items) old new status
ends-at-next before tables old desk new item rest items plugin status so_far number is over =
    let B : List PluginItem → Type 0 = λ l. IsOverAtTables (before ++ l) old new status in
    subst B (sym is) (ends-behind before tables old desk so_far item rest plugin new status number over)

pub wants-behind-next : (before : List PluginItem) (tables : List (List (List ℕ))) (old desk new : DeskView) (item : PluginItem) (rest items : List PluginItem) (plugin : ℕ)
    → ReadsTables before tables old desk → plugin ≡ length before + 1 → items ≡ item ∷ rest → new ≡ files_asked desk (name_if_any (table_file_of item.conf))
    → IsOverAtTables (before ++ items) old new NoMemory
wants-behind-next before tables old desk new item rest items plugin so_far number is asked =
    ends-at-next before tables old desk new item rest items plugin NoMemory so_far number is (inr (wants-all (name_if_any (table_file_of item.conf)) desk new asked))

-- the tables with one more, as the code has them
pub one-more-table : (before : List PluginItem) (item : PluginItem) (old new : DeskView) (held more : List (Vec (List ℕ) Global)) (table : Vec (List ℕ) Global)
    → more ≡ held ++ table ∷ [] → ReadsTables (before ++ item ∷ []) (map (λ t. t.items) held ++ table.items ∷ []) old new
    → ReadsTables (before ++ item ∷ []) (map (λ t. t.items) more) old new
one-more-table before item old new held more table is reads =
    let view : Vec (List ℕ) Global → List (List ℕ) = λ t. t.items in
    let same : map view more ≡ map view held ++ table.items ∷ [] = ap (λ (l : List (Vec (List ℕ) Global)). map view l) is ∙ map-append view held (table ∷ []) in
    subst (λ (l : List (List (List ℕ))). ReadsTables (before ++ item ∷ []) l old new) (sym same) reads

-- no file was read yet
pub none-read : (old : DeskView) (held : List (Vec (List ℕ) Global)) → held ≡ [] → ReadsTables [] (map (λ t. t.items) held) old old
none-read old held is =
    let view : Vec (List ℕ) Global → List (List ℕ) = λ t. t.items in
    let none : ReadsTables [] [] old old = record { are = tt; asked = sym (files_asked-nil old) } in
    subst (λ (l : List (Vec (List ℕ) Global)). ReadsTables [] (map view l) old old) (sym is) none

-- an error that is handed on
pub handed-on : {X E : Type 0} (P : X → Type 0) (Q : E → Type 0) (e : E) (r : Result X E) → IsErrAnd r (λ y. y ≡ e) → Q e → MatchResult r P Q
handed-on P Q e (Ok x) is said = absurd is
handed-on P Q e (Err y) is said = subst Q (sym is) said
