-- Of the code's inside, apart from the rules: how contracts see the tables.
use Rattle.std.specs.Prelude.{ℕ, Bool, true, false, List, [], ◌∷◌, map, filter, take, reverse, Option, None}
use Rattle.std.proofs.Common.{get_or}
use Rattle.std.specs.List.{flat_map}
use Rattle.std.specs.Option.{option_map}
use Rattle.std.specs.Borrow.{Bor}
use Rattle.mmtext.specs.Words.{Word}
use Rattle.source.specs.Statements.{Proof}
use Rattle.source.specs.Scopes.{Hypothesis, premise, Assertion, Scope, Stand, mandatory, pairs_of}
use Rattle.source.specs.Views.{seen_words, seen_proof, seen_hypothesis}
use Rattle.scopes.specs.declared.tables.Link.{Link}
use Rattle.scopes.specs.declared.tables.Apart.{Apart}
use Rattle.scopes.specs.declared.tables.Active.{Active}
use Rattle.scopes.specs.declared.tables.Asserted.{Asserted}
use Rattle.scopes.specs.declared.tables.Block.{Block}
use Rattle.scopes.specs.declared.tables.Tables.{Tables}
use Rattle.scopes.specs.Paths.{path}

-- ---- what is kept, in lists of words

-- a hypothesis with the number of the one before
abbrev pub Linked : Type 0
Linked = Option ℕ × Hypothesis

abbrev pub linked : Link → Linked
linked l = (l.before, seen_hypothesis l.hypothesis)

-- the variables of a $d with the number of the one before
abbrev pub SetApart : Type 0
SetApart = Option ℕ × List Word

abbrev pub set_apart : Apart → SetApart
set_apart a = (a.before, seen_words a.variables.items)

-- the variables of some $d
abbrev pub seen_aparts : List (Bor (List (Bor (List ℕ)))) → List (List Word)
seen_aparts vs = map (λ v. seen_words v.now) vs

-- an assertion with the numbers of the last active hypothesis and $d, and of its mandatory hypotheses
pub record Entry : Type 0 where
  pub label : Word
  pub statement : List Word
  pub proof : Option Proof
  pub hypotheses : Option ℕ
  pub apart : Option ℕ
  pub mandatory_links : List ℕ

abbrev pub entry_of : Asserted → Entry
entry_of a = record {
  label = a.label.now;
  statement = seen_words a.statement.items;
  proof = option_map seen_proof a.proof;
  hypotheses = a.hypotheses;
  apart = a.apart;
  mandatory_links = a.mandatory_links.items;
}

-- all that is kept, without the map of names
pub record Kept : Type 0 where
  pub constants : List Word
  pub variables : List Word
  pub symbols : List Word
  pub labels : List Word
  pub links : List Linked
  pub active : List Active
  pub aparts : List SetApart
  pub last_apart : Option ℕ
  pub entries : List Entry
  pub blocks : List Block

abbrev pub kept_of : Tables → Kept
kept_of t = record {
  constants = seen_words t.constants.items;
  variables = seen_words t.variables.items;
  symbols = seen_words t.symbols.items;
  labels = seen_words t.labels.items;
  links = map linked t.links.items;
  active = t.active.items;
  aparts = map set_apart t.aparts.items;
  last_apart = t.last_apart;
  entries = map entry_of t.assertions.items;
  blocks = t.blocks.items;
}

-- ---- what stands

-- the hypothesis of a number
abbrev pub hypothesis_at : List Linked → ℕ → Hypothesis
hypothesis_at links i = (get_or links i (None, premise [] [])).1

-- the hypotheses of some numbers
abbrev pub hypotheses_at : List Linked → List ℕ → List Hypothesis
hypotheses_at links numbers = map (hypothesis_at links) numbers

-- the active hypotheses
abbrev pub active_of : List Linked → List Active → List Hypothesis
active_of links active = map (λ a. hypothesis_at links a.link) active

-- the pairs that are active where a $d is the last active one
abbrev pub pairs_at : List SetApart → Option ℕ → List (Word × Word)
pairs_at aparts last = flat_map pairs_of (path aparts last)

-- an assertion
abbrev pub assertion_of : List Linked → List SetApart → Entry → Assertion
assertion_of links aparts e = record {
  label = e.label;
  hypotheses = mandatory (path links e.hypotheses) e.statement;
  pairs = pairs_at aparts e.apart;
  statement = e.statement;
  proof = e.proof;
  active = path links e.hypotheses;
}

abbrev pub assertions_of : List Linked → List SetApart → List Entry → List Assertion
assertions_of links aparts es = map (assertion_of links aparts) es

-- no block is open
abbrev pub is_outermost : List Block → Bool
is_outermost [] = true
is_outermost (b ∷ bs) = false

-- what stood before a block, with the blocks around it
abbrev pub scope_before : Kept → Block → List Block → Scope
scope_before k b around = record {
  outermost = is_outermost around;
  constants = take b.constants k.constants;
  variables = take b.variables k.variables;
  hypotheses = take b.active (active_of k.links k.active);
  pairs = pairs_at k.aparts b.apart;
  symbols = take b.symbols k.symbols;
  labels = take b.labels k.labels;
  assertions = take b.assertions (assertions_of k.links k.aparts k.entries);
}

-- what stood before each of some blocks, the innermost first
abbrev pub scopes_around : Kept → List Block → List Scope
scopes_around k [] = []
scopes_around k (b ∷ bs) = scope_before k b bs ∷ scopes_around k bs

-- what stands
abbrev pub scope_of : Kept → Scope
scope_of k = record {
  outermost = is_outermost (reverse k.blocks);
  constants = k.constants;
  variables = k.variables;
  hypotheses = active_of k.links k.active;
  pairs = pairs_at k.aparts k.last_apart;
  symbols = k.symbols;
  labels = k.labels;
  assertions = assertions_of k.links k.aparts k.entries;
}

unfoldable pub stand_of : Kept → Stand
stand_of k = record { scope = scope_of k; around = scopes_around k (reverse k.blocks) }

-- the numbers of those that are marked
abbrev pub marked_links : List Active → List ℕ
marked_links active = map (λ a. a.link) (filter (λ a. a.is_mandatory) active)

-- of each active hypothesis: whether it is mandatory for the expression that was framed last
abbrev pub marks_of : Kept → List Bool
marks_of k = map (λ a. a.is_mandatory) k.active
