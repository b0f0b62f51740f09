-- An assertion within another language: its words lead behind it, and tokens that lead behind it are its words.
use Rattle.std.proofs.Common.{◌≡◌, ◌<◌, cond, List, [], ◌∷◌, ◌++◌, length, Option, Some, None, Result, Ok, Err, refl, sym, ap, subst, ◌∙◌, arith}
use Rattle.std.specs.Prelude.{is_some}
use Rattle.std.proofs.lemmas.Bool.{cond-false}
use Rattle.std.proofs.lemmas.List.{map-append}
use Rattle.mmtext.specs.declared.fault.FaultKind.TheVariants.{BadToken}
use Rattle.mmtext.specs.declared.fault.TextFault.{TextFault}
use Rattle.mmtext.specs.Text.{Token}
use Rattle.mmtext.specs.Words.{Word}
use Rattle.mmtext.specs.Comments.{words_of}
use Rattle.mmtext.specs.Languages.{Language, fault}
use Rattle.walks.proofs.Walks.{walk, walk_ends, walk_none, walk_step, walk_cons}
use Rattle.mmsyntax.specs.declared.statement.Assertion.{Assertion}
use Rattle.mmsyntax.specs.Tables.{Tables}
use Rattle.mmsyntax.specs.Faults.{Position, row, unit_at, unit_language, first_of}
use Rattle.mmsyntax.specs.Grammar.{Statement, spelling}
use Rattle.statementreader.proofs.Leading.{home}
use Rattle.statementreader.proofs.UnitLaws.{unit_leads, unit_parsed, unit_ends, cond_fault}
use Rattle.scripts.specs.Scripts.{DeclaresAlone}
use Rattle.scripts.specs.ScriptFaults.{unit_start}

-- ---- rows

-- where a language goes on whose places within the assertion are `inner`, and that is at `behind` behind it
abbrev pub unit_end : {P : Type 0} → (Position → P) → (Assertion → P) → Position → Option Assertion → Result P TextFault
unit_end inner behind p None = Ok (inner p)
unit_end inner behind p (Some a) = Ok (behind a)

abbrev pub unit_next : {P : Type 0} → (Position → P) → (Assertion → P) → Result Position TextFault → Result P TextFault
unit_next inner behind (Ok p) = unit_end inner behind p (unit_at p.known p.place)
unit_next inner behind (Err f) = Err f

-- the language goes so at each of these places
abbrev pub HasUnits : {P A : Type 0} → Language P A → (Position → P) → (Assertion → P) → Type 0
HasUnits l inner behind = (p : Position) (u : Token) → l.row (inner p) u ≡ unit_next inner behind (row p u)

-- ---- tokens

-- tokens of which the first have these words, and the others those
record Splits (us ws : List Word) (ts : List Token) : Type 0 where
  kept : List Token
  rest : List Token
  whole : ts ≡ kept ++ rest
  front : words_of kept ≡ us
  back : words_of rest ≡ ws

splits : (us ws : List Word) (ts : List Token) → words_of ts ≡ us ++ ws → Splits us ws ts
splits [] ws ts h = record { kept = []; rest = ts; whole = refl; front = refl; back = h }
splits (w ∷ us) ws [] h = absurd cc
splits (w ∷ us) ws (t ∷ ts) h =
    let first : t.text ≡ w = cc in
    let r = splits us ws ts (let e : words_of ts ≡ us ++ ws = cc in e) in
    record {
      kept = t ∷ r.kept;
      rest = r.rest;
      whole = ap (λ x. t ∷ x) r.whole;
      front = ap (λ x. x ∷ words_of r.kept) first ∙ ap (λ x. w ∷ x) r.front;
      back = r.back;
    }

-- what was read of the rest of an assertion, and a walk on from behind it
record ReadsRest {P A : Type 0} (l : Language P A) (t : Tables) (behind : Assertion → P) (p : Position) (ts : List Token) (final : P)
    : Type 0 where
  assertion : Assertion
  kept : List Token
  rest : List Token
  whole : ts ≡ kept ++ rest
  last : Position
  leads : walk (unit_language t) p kept ≡ Ok last
  said : unit_at last.known last.place ≡ Some assertion
  walks : walk l (behind assertion) rest ≡ Ok final
  shorter : length rest < length ts

-- an assertion, the statement that declares it, with its words at the front, and a walk on from behind it
pub record ReadsUnit {P A : Type 0} (l : Language P A) (t : Tables) (behind : Assertion → P) (ts : List Token) (final : P) : Type 0 where
  pub assertion : Assertion
  pub rest : List Token
  pub said : (statement : Statement) × DeclaresAlone t statement assertion × (words_of ts ≡ spelling statement ++ words_of rest)
  pub walks : walk l (behind assertion) rest ≡ Ok final
  pub shorter : length rest < length ts

module _ {P A : Type 0} (l : Language P A) (t : Tables) (inner : Position → P) (behind : Assertion
    → P) (has : HasUnits l inner behind) where
  -- the tokens of an assertion lead behind it
  tokens_lead : (a : Assertion) (p final : Position) (kept rest : List Token) → unit_at p.known p.place ≡ None
      → unit_at final.known final.place ≡ Some a → walk (unit_language t) p kept ≡ Ok final
      → walk l (inner p) (kept ++ rest) ≡ walk l (behind a) rest
  tokens_lead a p final [] rest before said h =
      absurd
      (let same = walk_none (unit_language t) p final h in
      let e : None ≡ Some a = sym before ∙ ap (λ (x : Position). unit_at x.known x.place) same ∙ said in
      cc)
  tokens_lead a p final (u ∷ us) rest before said h =
      let r = walk_cons (unit_language t) p final u us h in
      let q = r.0 in
      let is : row p u ≡ Ok q = (cond_fault (is_some (unit_at p.known p.place)) u (row p u) q r.1).1 in
      go (λ x o walks. tokens_lead a x final us rest o said walks) (unit_at q.known q.place) q refl is r.2
    where
      go : ((x : Position) → unit_at x.known x.place ≡ None → walk (unit_language t) x us ≡ Ok final
          → walk l (inner x) (us ++ rest) ≡ walk l (behind a) rest)
          → (o : Option Assertion) (q : Position) → unit_at q.known q.place ≡ o → row p u ≡ Ok q → walk (unit_language t) q us ≡ Ok final
          → walk l (inner p) ((u ∷ us) ++ rest) ≡ walk l (behind a) rest
      go again None q o is walks =
          walk_step l (inner p) (inner q) u (us ++ rest) (has p u ∙ ap (unit_next inner behind) is ∙ ap (unit_end inner behind q) o)
          ∙ again q o walks
      go again (Some b) q o is walks =
          let ends = unit_ends t q final b us o walks in
          let some_is : Some b ≡ Some a = sym o ∙ ap (λ (x : Position). unit_at x.known x.place) ends.1 ∙ said in
          let same : b ≡ a = cc in
          walk_step l (inner p) (behind b) u (us ++ rest) (has p u ∙ ap (unit_next inner behind) is ∙ ap (unit_end inner behind q) o)
          ∙ ap (λ x. walk l (behind b) (x ++ rest)) ends.0 ∙ ap (λ x. walk l (behind x) rest) same

  -- so do the words of one
  pub unit_words_lead : (statement : Statement) (a : Assertion) (ws : List Word) (ts : List Token) (final : Result P TextFault)
      → DeclaresAlone t statement a → words_of ts ≡ spelling statement ++ ws
      → ((rest : List Token) → words_of rest ≡ ws → walk l (behind a) rest ≡ final) → walk l (inner (unit_start t)) ts ≡ final
  unit_words_lead statement a ws ts final d h next =
      let x = splits (spelling statement) ws ts h in
      let walks = unit_leads t statement d.0 x.kept d.1 x.front in
      ap (walk l (inner (unit_start t))) x.whole
      ∙ tokens_lead a (unit_start t) (home d.0) x.kept x.rest refl (ap first_of d.2) walks ∙ next x.rest x.back

  module _ (final : P) (apart : (p : Position) → inner p ≡ final → ⊥) where
    reads_rest : (p : Position) (ts : List Token) → unit_at p.known p.place ≡ None → walk l (inner p) ts ≡ Ok final
        → ReadsRest l t behind p ts final
    reads_rest p [] before h = absurd (apart p (walk_none l (inner p) final h))
    reads_rest p (u ∷ us) before h =
        let r = walk_cons l (inner p) final u us h in
        by_row (λ q o g. reads_rest q us o g) (row p u) refl r.0 (sym (has p u) ∙ r.1) r.2
      where
        -- the row of the unit's language
        first : (q : Position) → row p u ≡ Ok q → cond (is_some (unit_at p.known p.place)) (fault u BadToken) (row p u) ≡ Ok q
        first q is = cond-false (is_some (unit_at p.known p.place)) (fault u BadToken) (row p u) (ap is_some before) ∙ is

        by_end : ((q : Position) → unit_at q.known q.place ≡ None → walk l (inner q) us ≡ Ok final → ReadsRest l t behind q us final)
            → (q : Position) → row p u ≡ Ok q → (o : Option Assertion) → unit_at q.known q.place ≡ o → (x : P)
            → unit_end inner behind q o ≡ Ok x → walk l x us ≡ Ok final → ReadsRest l t behind p (u ∷ us) final
        by_end again q is None o x e g =
            let same : inner q ≡ x = cc in
            let y = again q o (subst (λ z. walk l z us ≡ Ok final) (sym same) g) in
            record {
              assertion = y.assertion;
              kept = u ∷ y.kept;
              rest = y.rest;
              whole = ap (λ z. u ∷ z) y.whole;
              last = y.last;
              leads = walk_step (unit_language t) p q u y.kept (first q is) ∙ y.leads;
              said = y.said;
              walks = y.walks;
              shorter = let lt : length y.rest < length us = y.shorter in omega arith;
            }
        by_end again q is (Some a) o x e g =
            let same : behind a ≡ x = cc in
            record {
              assertion = a;
              kept = u ∷ [];
              rest = us;
              whole = refl;
              last = q;
              leads = walk_step (unit_language t) p q u [] (first q is) ∙ walk_ends (unit_language t) q;
              said = o;
              walks = subst (λ z. walk l z us ≡ Ok final) (sym same) g;
              shorter = omega arith;
            }

        by_row : ((q : Position) → unit_at q.known q.place ≡ None → walk l (inner q) us ≡ Ok final → ReadsRest l t behind q us final)
            → (o : Result Position TextFault) → row p u ≡ o → (x : P) → unit_next inner behind o ≡ Ok x
            → walk l x us ≡ Ok final → ReadsRest l t behind p (u ∷ us) final
        by_row again (Err f) is x e g = absurd cc
        by_row again (Ok q) is x e g = by_end again q is (unit_at q.known q.place) refl x e g

    -- tokens that lead through an assertion and on
    pub reads_unit : (ts : List Token) → walk l (inner (unit_start t)) ts ≡ Ok final → ReadsUnit l t behind ts final
    reads_unit ts h =
        let b = reads_rest (unit_start t) ts refl h in
        let unit = unit_parsed t b.assertion b.kept b.last b.said b.leads in
        record {
          assertion = b.assertion;
          rest = b.rest;
          said = (
            unit.statement,
            (unit.known, unit.declared, unit.single),
            ap words_of b.whole ∙ map-append (λ (v : Token). v.text) b.kept b.rest ∙ ap (λ ws. ws ++ words_of b.rest) unit.parts,
          );
          walks = b.walks;
          shorter = b.shorter;
        }
