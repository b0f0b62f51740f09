-- From step to step of the call: what is known of a source leads to what is taken, or to why nothing is.
use Rattle.std.proofs.Common.{◌≡◌, ◌≢◌, ℕ, Bool, List, [], Option, Bor, sym, ap, subst, ◌∙◌}
use Rattle.std.specs.Prelude.{Result, Ok, Err, IfOk, IfErr}
use Rattle.std.specs.Option.{option_map}
use Rattle.mmtext.specs.Words.{Word}
use Rattle.mmsyntax.specs.declared.label.Label.{Label}
use Rattle.mmsyntax.specs.Layout.{HasSpelling}
use Rattle.mmsyntax.specs.Tables.{Contents}
use Rattle.source.specs.Scopes.{Assertion, Scope}
use Rattle.source.specs.Sources.{DeclaresText}
use Rattle.source.specs.Whole.{IsWhole, SourcesAreWhole}
use Rattle.taking.specs.declared.fresh.Unnamed.{Unnamed}
use Rattle.taking.specs.declared.fresh.Unnamed.TheVariants as unnamed'
use Rattle.taking.specs.declared.reason.Reason.{Reason}
use Rattle.taking.specs.Names.{Naming}
use Rattle.taking.specs.Reasons.{Choice, AreFlags, told_in}
use Rattle.source.specs.Flags.{kept}
use Rattle.taking.specs.Taken.{AreTaken, taken_as_axioms}
use Rattle.choosing.specs.Choices.{IsChosen}
use Rattle.choosing.specs.declared.wish.Wish.{Wish}
use Rattle.choosing.specs.declared.wish.Selection.{Selection}
use Rattle.sites.specs.declared.names.LibraryNames.{LibraryNames}
use Rattle.sites.specs.Indexes.{HasRoom}
use Rattle.sites.specs.Namings.{AreNamedWell, IsUnnamed, AreUnnamed}
use Rattle.sites.specs.Sites.{Sited, AreSites}
use Rattle.derivation.specs.declared.fault.ProofFault.{ProofFault}
use Rattle.drafts.specs.Limits.{IsPassed, IsTold}
use Rattle.drafts.specs.declared.limits.Limit.{Limit}
use Rattle.drafts.specs.declared.draft.Undeclared.{Undeclared}
use Rattle.drafts.specs.declared.draft.Undeclared.TheVariants as undeclared
use Rattle.gathering.specs.declared.assembling.Gathered.{Gathered}
use Rattle.intake.specs.declared.taken.Taken.{Taken}
use Rattle.intake.specs.declared.refusal.Refusal.{Refusal}
use Rattle.intake.specs.declared.refusal.Refusal.TheVariants as refusal
use Rattle.gathering.specs.Placed.{map_of, tables_of}
use Rattle.intake.specs.Intakes.{IsTakenByWish, IsLibraryOf, IsRefused, IsRefusedOf, IsProofFault, IsWide, IsDraft, name_at, name_in}
use Rattle.intake.specs.Parts.{AreTakenBy, AreDrafted, IsGathered, AreChosen, IsChoiceByFlags, HasSites, AreAsMany, lists_of, changed_of, name_by}
use Rattle.intake.proofs.Libraries.{chosen_kept, drafted_of}

-- ---- refusals

pub is_refused : (s : Scope) (w : Wish) (why : Refusal) → ((text : List ℕ) → DeclaresText text s → IsRefused text w why)
    → IsRefusedOf s w why
is_refused s w why f = record { refused = λ ne. f }

pub too_wide : (s : Scope) (w : Wish) (flags : List Bool) → IsChoiceByFlags s w flags → IsWide s (kept flags s.assertions)
    → IsRefusedOf s w refusal.TooWide
too_wide s w flags c wide =
    is_refused s w refusal.TooWide
    (λ text d. (s, d, (c.choice, c.chooses, subst (IsWide s) (chosen_kept s c.choice flags c.flags_are) wide)))

-- no name is free
unnamed : (s : Scope) (w : Wish) (t : Sited) → HasSites s w t → HasRoom t.constants t.floats → (word : Bor (List ℕ))
    → IsUnnamed s t.constants t.variables t.floats t.labels word.now → IsRefusedOf s w (refusal.NoFreshName word)
unnamed s w t sited room word none =
    is_refused s w (refusal.NoFreshName word)
    (λ text d. (
      s,
      d,
      (t, record { choice = sited.choice; chooses = sited.chooses; sites = sited.sites; room = room }, none),
    ))

-- a wish with flags that say what it chooses
pub by_flags : (s : Scope) (w : Wish) (sel : Selection) (flags : List Bool) → flags ≡ sel.chosen.items → IsChosen s w sel
    → IsChoiceByFlags s w flags
by_flags s w sel flags e c = record {
  choice = c.choice;
  chooses = record { is_choice = c.is_choice; known = c.known; in_order = c.in_order; few = c.few };
  flags_are = c.flags.chosen_are ∙ sym e;
}

pub has_sites : (s : Scope) (w : Wish) (flags : List Bool) (t : Sited) → IsChoiceByFlags s w flags → AreSites s (kept flags s.assertions) t
    → HasSites s w t
has_sites s w flags t c sites = record {
  choice = c.choice;
  chooses = c.chooses;
  sites = subst (λ (xs : List Assertion). AreSites s xs t) (chosen_kept s c.choice flags c.flags_are) sites;
}

-- names were given to these words
pub no_names : (s : Scope) (w : Wish) (t : Sited) → HasSites s w t → HasRoom t.constants t.floats → (cs vs fs ls : List Word)
    → cs ≡ t.constants → vs ≡ t.variables → fs ≡ t.floats → ls ≡ t.labels → (word : Bor (List ℕ)) (why : Unnamed)
    → why ≡ unnamed'.NoFreshName word → AreUnnamed s cs vs fs ls why → IsRefusedOf s w (refusal.NoFreshName word)
no_names s w t sited room cs vs fs ls constants variables floats labels word why is are =
    let a = subst (λ (ws : List Word). AreUnnamed s ws vs fs ls why) constants are in
    let b = subst (λ (ws : List Word). AreUnnamed s t.constants ws fs ls why) variables a in
    let d = subst (λ (ws : List Word). AreUnnamed s t.constants t.variables ws ls why) floats b in
    let e = subst (λ (ws : List Word). AreUnnamed s t.constants t.variables t.floats ws why) labels d in
    unnamed s w t sited room word (subst (λ (u : Unnamed). AreUnnamed s t.constants t.variables t.floats t.labels u) is e)

-- lists of which no text is a database
module _ (s : Scope) (w : Wish) (t : Sited) (db : Contents) (axioms : List (Word × Reason)) (names : List Naming) (flags : List Bool)
    (drafted : AreDrafted s w t db axioms names flags) where
  draft : (text : List ℕ) → DeclaresText text s → IsDraft text w db
  draft text d =
      let taken = drafted.taken_by.taken in
      record {
        source = s;
        declares = d;
        choice = taken.choice;
        chooses = record { is_choice = taken.is_choice; known = taken.known; in_order = taken.in_order; few = taken.few };
        axioms = axioms;
        names = names;
        takes = taken.takes;
        long = taken.long;
      }

  named : (limit : Limit) → name_by t limit ≡ name_in drafted.taken_by.taken.takes.places limit
  named limit =
      let m = drafted.taken_by.taken.takes.places in
      let p = drafted.placed in
      ap (λ ws. name_at ws t.variables t.floats t.labels limit) (sym p.constants)
      ∙ ap (λ ws. name_at m.constants ws t.floats t.labels limit) (sym p.variables)
      ∙ ap (λ ws. name_at m.constants m.variables ws t.labels limit) (sym p.floats)
      ∙ ap (λ ws. name_at m.constants m.variables m.floats ws limit) (sym p.labels)

  passes : (limit : Limit) (name : Option (Bor (List ℕ))) → option_map (λ n. n.now) name ≡ name_by t limit → (HasSpelling db → ⊥)
      → IsPassed db limit → IsRefusedOf s w (refusal.Passes limit name)
  unfolding draft
  passes limit name is none passed =
      is_refused s w (refusal.Passes limit name) (λ text d. (db, (draft text d, passed, is ∙ named limit, none)))

  -- a limit is passed
  pub refused_as_passing : (limit : Limit) (name : Option (Bor (List ℕ))) (why : Undeclared) → why ≡ undeclared.Passes limit
      → option_map (λ n. n.now) name ≡ name_by t limit → (why ≢ undeclared.NoMemory → HasSpelling db → ⊥) → IsTold db why
      → IsRefusedOf s w (refusal.Passes limit name)
  refused_as_passing limit name why is named none told =
      let other : why ≢ undeclared.NoMemory = λ e. absurd (let same : undeclared.Passes limit ≡ undeclared.NoMemory = sym is ∙ e in cc) in
      passes limit name named (none other) (subst (IsTold db) is told)

  -- or another rule is broken
  pub refused_as_unlawful : (why : Undeclared) → why ≡ undeclared.Unlawful → (why ≢ undeclared.NoMemory → HasSpelling db → ⊥)
      → IsTold db why → IsRefusedOf s w refusal.Unlawful
  unfolding draft
  refused_as_unlawful why is none passes-none =
      let other : why ≢ undeclared.NoMemory = λ e. absurd (let same : undeclared.Unlawful ≡ undeclared.NoMemory = sym is ∙ e in cc) in
      is_refused s w refusal.Unlawful (λ text d. (db, draft text d, subst (IsTold db) is passes-none, none other))

-- a proof has a fault
pub refused_for_proof : (s : Scope) (w : Wish) (db : Contents) (axioms : List (Word × Reason)) (names : List Naming) (flags : List Bool)
    → AreTakenBy s w db axioms names flags → (label : Label) (fault : ProofFault) → IsProofFault db label fault
    → IsRefusedOf s w (refusal.Proof label fault)
refused_for_proof s w db axioms names flags by label fault found =
    let taken = by.taken in
    is_refused s w (refusal.Proof label fault)
    (λ text d.
    let draft : IsDraft text w db =
    record {
      source = s;
      declares = d;
      choice = taken.choice;
      chooses = record { is_choice = taken.is_choice; known = taken.known; in_order = taken.in_order; few = taken.few };
      axioms = axioms;
      names = names;
      takes = taken.takes;
      long = taken.long;
    } in
    (db, draft, found))

-- ---- what is taken

pub is_taken : (s : Scope) (w : Wish) (t : Taken) → IsLibraryOf s w t → (text : List ℕ) → DeclaresText text s → IsTakenByWish text w t
is_taken s w t l text d = record {
  source = s;
  declares = d;
  choice = l.taken.choice;
  is_choice = l.taken.is_choice;
  known = l.taken.known;
  in_order = l.taken.in_order;
  few = l.taken.few;
  takes = l.taken.takes;
  long = l.taken.long;
  checks = l.checks;
  chosen_are = l.chosen_are;
}

-- ---- what is chosen

module _ (s : Scope) (t : Sited) (names : LibraryNames)
    (named : AreNamedWell s t.constants t.variables t.floats t.labels names) where
  pub is_gathered : (w : Wish) (g : Gathered) (chosen front long : List Bool)
      → AreChosen s w (map_of t names) (tables_of t names) chosen front long → AreSites s (kept chosen s.assertions) t
      → ((choice : Choice) → AreFlags s choice chosen front long
      → AreTaken (map_of t names) (tables_of t names) choice [] s.assertions g.assertions.items)
      → ((choice : Choice) → AreFlags s choice chosen front long → taken_as_axioms choice [] s.assertions ≡ told_in g.axioms.items)
      → IsGathered s w t names g chosen
  is_gathered w g chosen front long c sites taken telling = record {
    choice = c.choice;
    chooses = c.chooses;
    there = c.there;
    long = c.are_long c.choice.long g.assertions.items (taken c.choice c.flags);
    sites = subst (λ xs. AreSites s xs t) (chosen_kept s c.choice chosen c.flags.chosen_are) sites;
    names_are = named;
    taken = taken c.choice c.flags;
    told_are = telling c.choice c.flags;
    flags_are = c.flags.chosen_are;
  }

-- what was gathered is taken, where lists and names are those
pub taken_as : (s : Scope) (w : Wish) (t : Sited) (names : LibraryNames) (g : Gathered) (flags : List Bool) (many : AreAsMany t names)
    → IsGathered s w t names g flags → (db : Contents) (made : List Naming) → db ≡ lists_of t names g.assertions.items
    → made ≡ changed_of t names → AreDrafted s w t db (told_in g.axioms.items) made flags
taken_as s w t names g flags many is db made e f =
    subst (λ (d : Contents). AreDrafted s w t d (told_in g.axioms.items) made flags) (sym e)
    (subst (λ (ns : List Naming). AreDrafted s w t (lists_of t names g.assertions.items) (told_in g.axioms.items) ns flags) (sym f)
    (drafted_of s w t names g flags many is))

-- ---- the call

pub whole_source : SourcesAreWhole → (text : List ℕ) (s : Scope) → DeclaresText text s → IsWhole s
whole_source law text s d = law d.statements s d.declared

pub taken_by : (text : List ℕ) (s : Scope) (w : Wish) (r : Result Taken Refusal) → DeclaresText text s → IfOk r (IsLibraryOf s w)
    → IfOk r (IsTakenByWish text w)
taken_by text s w (Ok t) d l = is_taken s w t l text d
taken_by text s w (Err why) d l = tt

pub refused_by : (text : List ℕ) (s : Scope) (w : Wish) (r : Result Taken Refusal) → DeclaresText text s → IfErr r (IsRefusedOf s w)
    → IfErr r (λ why. why ≢ refusal.NoMemory → IsRefused text w why)
refused_by text s w (Ok t) d l = tt
refused_by text s w (Err why) d l = λ ne. l.refused ne text d
