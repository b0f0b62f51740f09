-- What stood before the open blocks stays, where the tables stay as far as each block began.
use Rattle.std.proofs.Common.{◌≡◌, ℕ, ◌≤◌, List, [], ◌∷◌, ◌++◌, length, take, Option, Some, None, refl, arith}
use Rattle.std.proofs.Common.{length-append}
use Rattle.std.proofs.lemmas.List.{take-append-le}
use Rattle.scopes.specs.declared.tables.Block.{Block}
use Rattle.scopes.specs.Paths.{IsWithin}
use Rattle.scopes.specs.Views.{Kept, active_of, pairs_at, assertions_of, scope_before, scopes_around}
use Rattle.scopes.specs.Sound.{IsBelow, AreNested}

pub within_more : (o : Option ℕ) (m n : ℕ) → m ≤ n → IsWithin o m → IsWithin o n
within_more None m n le h = tt
within_more (Some i) m n le h = omega arith

-- ---- blocks that are nested

-- how much there is of each list
pub record Sizes : Type 0 where
  pub cs : ℕ
  pub vs : ℕ
  pub hs : ℕ
  pub ss : ℕ
  pub ls : ℕ
  pub es : ℕ

pub record IsMore (a b : Sizes) : Type 0 where
  pub cs : a.cs ≤ b.cs
  pub vs : a.vs ≤ b.vs
  pub hs : a.hs ≤ b.hs
  pub ss : a.ss ≤ b.ss
  pub ls : a.ls ≤ b.ls
  pub es : a.es ≤ b.es

abbrev pub sizes_of : Kept → Sizes
sizes_of k = record {
  cs = length k.constants;
  vs = length k.variables;
  hs = length k.active;
  ss = length k.symbols;
  ls = length k.labels;
  es = length k.entries;
}

abbrev pub began : Block → Sizes
began b = record { cs = b.constants; vs = b.variables; hs = b.active; ss = b.symbols; ls = b.labels; es = b.assertions }

abbrev pub Nested : List Block → ℕ → Sizes → Type 0
Nested bs aparts z = AreNested bs aparts z.cs z.vs z.hs z.ss z.ls z.es

same_more : (a : Sizes) → IsMore a a
same_more a = record { cs = omega arith; vs = omega arith; hs = omega arith; ss = omega arith; ls = omega arith; es = omega arith }

pub below_more : (b : Block) (y z : Sizes) → IsMore y z → IsBelow b y.cs y.vs y.hs y.ss y.ls y.es → IsBelow b z.cs z.vs z.hs z.ss z.ls z.es
below_more b y z more h = record {
  constants = (let p = h.constants in let q = more.cs in omega arith);
  variables = (let p = h.variables in let q = more.vs in omega arith);
  active = (let p = h.active in let q = more.hs in omega arith);
  symbols = (let p = h.symbols in let q = more.ss in omega arith);
  labels = (let p = h.labels in let q = more.ls in omega arith);
  assertions = (let p = h.assertions in let q = more.es in omega arith);
}

pub nested_more : (bs : List Block) (m n : ℕ) (y z : Sizes) → m ≤ n → IsMore y z → Nested bs m y → Nested bs n z
nested_more [] m n y z le more h = tt
nested_more (b ∷ bs) m n y z le more h =
    (below_more b y z more h.0, within_more b.apart m n le h.1, nested_more bs m n (began b) (began b) le (same_more (began b)) h.2)

-- ---- what stood before blocks

-- two tables are the same as far as some sizes
pub record Agree (k j : Kept) (aparts : ℕ) (z : Sizes) : Type 0 where
  pub constants : (n : ℕ) → n ≤ z.cs → take n j.constants ≡ take n k.constants
  pub variables : (n : ℕ) → n ≤ z.vs → take n j.variables ≡ take n k.variables
  pub hypotheses : (n : ℕ) → n ≤ z.hs → take n (active_of j.links j.active) ≡ take n (active_of k.links k.active)
  pub pairs : (o : Option ℕ) → IsWithin o aparts → pairs_at j.aparts o ≡ pairs_at k.aparts o
  pub symbols : (n : ℕ) → n ≤ z.ss → take n j.symbols ≡ take n k.symbols
  pub labels : (n : ℕ) → n ≤ z.ls → take n j.labels ≡ take n k.labels
  pub assertions : (n : ℕ) → n ≤ z.es → take n (assertions_of j.links j.aparts j.entries)
      ≡ take n (assertions_of k.links k.aparts k.entries)

le_trans : (a b c : ℕ) → a ≤ b → b ≤ c → a ≤ c
le_trans a b c p q = omega arith

agree_less : (k j : Kept) (aparts : ℕ) (b : Block) (z : Sizes) → IsBelow b z.cs z.vs z.hs z.ss z.ls z.es → Agree k j aparts z
    → Agree k j aparts (began b)
agree_less k j aparts b z h a = record {
  constants = λ n le. a.constants n (le_trans n b.constants z.cs le h.constants);
  variables = λ n le. a.variables n (le_trans n b.variables z.vs le h.variables);
  hypotheses = λ n le. a.hypotheses n (le_trans n b.active z.hs le h.active);
  pairs = a.pairs;
  symbols = λ n le. a.symbols n (le_trans n b.symbols z.ss le h.symbols);
  labels = λ n le. a.labels n (le_trans n b.labels z.ls le h.labels);
  assertions = λ n le. a.assertions n (le_trans n b.assertions z.es le h.assertions);
}

before_stays : (k j : Kept) (aparts : ℕ) (b : Block) (bs : List Block) (z : Sizes) → IsBelow b z.cs z.vs z.hs z.ss z.ls z.es
    → IsWithin b.apart aparts → Agree k j aparts z → scope_before j b bs ≡ scope_before k b bs
before_stays k j aparts b bs z h apart a =
    let e1 = a.constants b.constants h.constants in
    let e2 = a.variables b.variables h.variables in
    let e3 = a.hypotheses b.active h.active in
    let e4 = a.pairs b.apart apart in
    let e5 = a.symbols b.symbols h.symbols in
    let e6 = a.labels b.labels h.labels in
    let e7 = a.assertions b.assertions h.assertions in
    cc

pub around_stays : (k j : Kept) (aparts : ℕ) (bs : List Block) (z : Sizes) → Nested bs aparts z → Agree k j aparts z
    → scopes_around j bs ≡ scopes_around k bs
around_stays k j aparts [] z h a = refl
around_stays k j aparts (b ∷ bs) z h a =
    let here : scope_before j b bs ≡ scope_before k b bs = before_stays k j aparts b bs z h.0 h.1 a in
    let rest : scopes_around j bs ≡ scopes_around k bs = around_stays k j aparts bs (began b) h.2 (agree_less k j aparts b z h.0 a) in
    cc

-- ---- one more item

pub take_stays : {A : Type 0} (xs : List A) (x : A) (n : ℕ) → n ≤ length xs → take n (xs ++ x ∷ []) ≡ take n xs
take_stays xs x n le = take-append-le n xs (x ∷ []) le

pub push_more : {A : Type 0} (xs : List A) (x : A) → length xs ≤ length (xs ++ x ∷ [])
push_more xs x = omega (arith, length-append xs (x ∷ []))
