-- A library that is opened, and its new sessions.
use Rattle.std.proofs.Common.{◌≡◌, ℕ, ◌≤◌, List, [], ◌∷◌, ◌++◌, length, map, All, Bool, false, Some, None, refl, sym, ap, subst, ◌∙◌}
use Rattle.std.specs.Ordering.{nat_cmp}
use Rattle.std.specs.Cmp.Lexicographic.{slice_cmp}
use Rattle.std.specs.FinMap.{empty, get-empty}
use Rattle.std.proofs.lemmas.List.{append_assoc}
use Rattle.std.proofs.lemmas.List.Elements.{All-nil, All-map}
use Rattle.std.proofs.lemmas.Simd.{map-map}
use Rattle.mmsyntax.specs.Tables.{Contents}
use Rattle.mmsyntax.specs.Layout.{HasSpelling}
use Rattle.derivation.specs.Databases.{AllCheck}
use Rattle.library.specs.Library.{Verifies, opening, setting_over}
use Rattle.librarylaws.proofs.Opening.{opening_verifies}
use Rattle.ranges.specs.Ranges.{Range, ranges_named}
use Rattle.bodystore.specs.Stages.{Staged, AreStaged}
use Rattle.cells.specs.Slots.{is_ranged}
use Rattle.cells.specs.State.{most_words}
use Rattle.plaincells.specs.declared.plain.PlainCells.{PlainCells}
use Rattle.plaincells.specs.Opening.{CellsOpen, CellsRefuse}
use Rattle.plaincells.specs.declared.opening.OpenError.{OpenError as CellsError}
use Rattle.plaincells.specs.declared.opening.OpenError.TheVariants as cells
use Rattle.tlwords.specs.declared.words.Words.{Words}
use Rattle.tlwords.specs.Terms.{AreNamed}
use Rattle.tlwords.specs.Callers.{home_of}
use Rattle.tlwords.specs.Known.{Known, Knows}
use Rattle.tlwords.specs.Calls.{new_pass}
use Rattle.tlwords.specs.Runs.{down}
use Rattle.lawful.specs.declared.notes.Given.{Given}
use Rattle.lawful.specs.declared.notes.Note.{Note}
use Rattle.lawful.specs.Lawful.{setting_given, first_library, OpensWell, library_terms}
use Rattle.lawful.specs.History.{history_of}
use Rattle.lawful.specs.Laws.{IsPassOn}
use Rattle.openings.proofs.Openings.{opened_cells_open_well}
use Rattle.transaction.specs.declared.outcome.Record.{Record}
use Rattle.transaction.specs.Members.{Home, Member, IsMember, IsRecordIn}
use Rattle.transaction.specs.declared.shape.Shape.{Shape}
use Rattle.transaction.specs.Openings.{IsShape, IsNewSession, Refuses, from_cells, seated, AreSeated}
use Rattle.transaction.proofs.Standing.{stands}

-- what plain cells hold that a database opened, whose proofs check, opens words well
pub words_open : (db : Contents) (g : Given) (room : ℕ) (made : PlainCells) (values store : List ℕ) → g.database.value ≡ db
    → HasSpelling db → AllCheck db → 1 ≤ g.slots → g.slots ≤ 4096 → length db.assertions ≤ g.slots → CellsOpen db g.slots room made
    → values ≡ made.values.items → store ≡ made.store.items
    → OpensWell g (ranges_named (library_terms.ranged g) store values) values
    × AreNamed library_terms g (ranges_named (library_terms.ranged g) store values) values
words_open db g room made values store is spelled checks some few many opens values_are store_is =
    let verifies : Verifies (setting_given g) (first_library g) =
    subst (λ (d : Contents). Verifies (setting_over d g.slots) (opening d)) (sym is)
    (opening_verifies db g.slots spelled checks some few many) in
    let own : CellsOpen g.database.value g.slots room made = subst (λ (d : Contents). CellsOpen d g.slots room made) (sym is) opens in
    let IsWell : List ℕ → List ℕ → Type 0 =
    λ vs ws. OpensWell g (ranges_named (library_terms.ranged g) ws vs) vs
    × AreNamed library_terms g (ranges_named (library_terms.ranged g) ws vs) vs in
    subst (λ (vs : List ℕ). IsWell vs store) (sym values_are)
    (subst (λ (ws : List ℕ). IsWell made.values.items ws) (sym store_is) (opened_cells_open_well g room made verifies own))

-- where its cells are not opened, the library isn't either
pub cells_refuse : (db : Contents) (shape : Shape) (error : CellsError) → IsShape shape → length db.assertions ≤ shape.slots → AllCheck db
    → CellsRefuse db shape.slots shape.room error → Refuses db shape (from_cells error)
cells_refuse db shape cells.TooMany is fits checks h = (is, h)
cells_refuse db shape cells.StoreFull is fits checks h = (is, fits, checks, h.1)
cells_refuse db shape cells.NoMemory is fits checks h = (is, fits)

-- no range is staged at first
pub none_staged : (ranges : List Range) (stage : Staged) → stage ≡ empty → AreStaged ranges stage
none_staged ranges stage is =
    subst (AreStaged ranges) (sym is)
    (record { among = λ words start at. let none = sym (get-empty (slice_cmp nat_cmp) words) ∙ at in cc none })

-- one more session is made, of the next pass
pub seat_next : (g s : Given) (k : Known Given Note) (records : List Record) (stage : Staged) (lacked : Bool) (made new : List Member)
    → (rest left all : List (Known Given Note))
    → new ≡ made ++ record { given = s; known = k; records = records; staged = stage; lacked_room = lacked } ∷ []
    → s ≡ g → records ≡ [] → stage ≡ empty → lacked ≡ false
    → rest ≡ k ∷ left
    → made ++ map (seated g) rest ≡ map (seated g) all
    → new ++ map (seated g) left ≡ map (seated g) all
seat_next g s k records stage lacked made new rest left all new_is given none clear not next so_far =
    let one : record { given = s; known = k; records = records; staged = stage; lacked_room = lacked } ≡ seated g k =
    λ j. record { given = given j; known = k; records = none j; staged = clear j; lacked_room = not j } in
    ap (λ (ms : List Member). ms ++ map (seated g) left) (new_is ∙ ap (λ (m : Member). made ++ m ∷ []) one)
    ∙ append_assoc made (seated g k ∷ []) (map (seated g) left)
    ∙ (ap (λ ks. made ++ map (seated g) ks) (sym next) ∙ so_far)

-- the session of a pass that drew nothing, and of which no staging was refused, keeps what it is to keep
pub member_of : (g : Given) (k : Known Given Note) → IsPassOn g k → Knows library_terms k → k.drawn ≡ [] → k.full ≡ None
    → IsMember (seated g k)
member_of g k on knows new unrefused =
    let none = All-nil (IsRecordIn (history_of k.seen)) in
    record {
      on = on;
      knows = knows;
      recorded = record { numbers = sym new; entries = none };
      exceeds = λ tail count is. let no = sym unrefused ∙ is in absurd cc;
    }

-- the library of these words
abbrev pub home_at : {L : Type 0} → Given → Words L Given Note → Home
home_at g words =
    record {
      given = g;
      words = home_of words;
      store = words.table.shared.key.store.value.items;
      sessions = words.table.shared.key.sessions;
    }

-- the passes of an opening
pub record ArePasses (home : Home) (sessions : ℕ) (passes : List (Known Given Note)) : Type 0 where
  pub new : All (λ k. k ≡ new_pass home.words (ranges_named (is_ranged home.given.slots) home.store home.words.base) k.name) passes
  pub knows : All (Knows library_terms) passes
  pub names : map (λ k. k.name) passes ≡ down sessions sessions

pub passes_of : (home : Home) (sessions : ℕ) (passes : List (Known Given Note)) (values store : List ℕ)
    → home.words.base ≡ values → home.store ≡ store
    → All (λ k. k ≡ new_pass home.words (ranges_named (is_ranged home.given.slots) store values) k.name) passes
    → All (Knows library_terms) passes
    → map (λ k. k.name) passes ≡ down sessions sessions
    → ArePasses home sessions passes
passes_of home sessions passes values store base_is store_is new knows names =
    let slots = home.given.slots in
    record {
      new = subst (λ (vs : List ℕ). All (λ k. k ≡ new_pass home.words (ranges_named (is_ranged slots) home.store vs) k.name) passes)
          (sym base_is)
          (subst (λ (ws : List ℕ). All (λ k. k ≡ new_pass home.words (ranges_named (is_ranged slots) ws values) k.name) passes)
          (sym store_is) new);
      knows = knows;
      names = names;
    }

module _ (home : Home) (sessions : ℕ) (passes : List (Known Given Note)) (setting : home.words.setting ≡ Some home.given)
    (few : home.words.room ≤ most_words) (are : ArePasses home sessions passes) where
  -- they are on the words of the library
  pub on_words : All (IsPassOn home.given) passes
  on_words i d lt =
      let words = ap (λ (k : Known Given Note). k.home) (are.new i d lt) in
      (ap (λ h. h.setting) words ∙ setting, subst (λ (n : ℕ). n ≤ most_words) (sym (ap (λ h. h.room) words)) few)

  pub undrawn : All (λ k. k.drawn ≡ []) passes
  undrawn i d lt = ap (λ (k : Known Given Note). k.drawn) (are.new i d lt)

  pub unrefused : All (λ k. k.full ≡ None) passes
  unrefused i d lt = ap (λ (k : Known Given Note). k.full) (are.new i d lt)

  -- the sessions of the passes are new ones, with the passes' names
  pub new_sessions : (members : List Member) → AreSeated home.given passes members → All (IsNewSession home) members
  new_sessions members seats =
      subst (All (IsNewSession home)) (sym seats)
      (All-map (IsNewSession home) (seated home.given) passes
      (λ i d lt.
      record {
        given = refl;
        known = are.new i d lt;
        records = refl;
        stands = stands _ (member_of home.given _ (on_words i d lt) (are.knows i d lt) (undrawn i d lt) (unrefused i d lt));
      }))

  pub named_sessions : (members : List Member) → AreSeated home.given passes members
      → map (λ (m : Member). m.known.name) members ≡ down sessions sessions
  named_sessions members seats =
      ap (map (λ (m : Member). m.known.name)) seats ∙ map-map (λ (m : Member). m.known.name) (seated home.given) passes ∙ are.names
