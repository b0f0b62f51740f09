-- What contracts see of the tables.
use Rattle.std.proofs.Common.{◌≡◌, suc, true, false, nat_eq, List, [], ◌∷◌, ◌++◌, length, reverse, Option, refl, sym, ap, ◌∙◌, subst, ne_eqb, arith}
use Rattle.std.proofs.lemmas.List.{reverse-append}
use Rattle.mmtext.specs.Words.{Word}
use Rattle.source.specs.Statements.{Statement, Proof}
use Rattle.source.specs.Scopes.{Scope, Stand, with_assertion}
use Rattle.source.specs.Tests.{is_lawful}
use Rattle.scopes.specs.declared.tables.Block.{Block}
use Rattle.scopes.specs.Seen.{Seen}
use Rattle.scopes.specs.Views.{Kept, scope_of, stand_of, marks_of, is_outermost}

pub seen_scope : (k : Kept) (x : Seen) → record { stand = stand_of k; marks = marks_of k } ≡ x → scope_of k ≡ x.stand.scope
unfolding stand_of
seen_scope k x e = ap (λ s. s.stand.scope) e

pub seen_marks : (k : Kept) (x : Seen) → record { stand = stand_of k; marks = marks_of k } ≡ x → marks_of k ≡ x.marks
seen_marks k x e = ap (λ s. s.marks) e

pub stand_scope : (k : Kept) (s : Stand) → stand_of k ≡ s → scope_of k ≡ s.scope
unfolding stand_of
stand_scope k s e = ap (λ s. s.scope) e

-- what is lawful where the tables stand
pub lawful_there : (k : Kept) (s : Stand) (x : Statement) → stand_of k ≡ s → is_lawful s.scope x ≡ true → is_lawful (scope_of k) x ≡ true
lawful_there k s x e h = subst (λ (t : Scope). is_lawful t x ≡ true) (sym (stand_scope k s e)) h

not_outermost : (xs : List Block) (b : Block) → is_outermost (xs ++ b ∷ []) ≡ false
not_outermost [] b = refl
not_outermost (x ∷ xs) b = refl

pub empty_outermost : (bs : List Block) → nat_eq (length bs) 0 ≡ is_outermost (reverse bs)
empty_outermost [] = refl
empty_outermost (b ∷ bs) = ne_eqb (suc (length bs)) 0 (omega arith)
    ∙ sym (ap is_outermost (reverse-append (b ∷ []) bs) ∙ not_outermost (reverse bs) b)

pub same_scope : (k j : Kept) → stand_of k ≡ stand_of j → scope_of k ≡ scope_of j
unfolding stand_of
same_scope k j e = ap (λ s. s.scope) e

-- one more assertion where the tables stand
pub asserted_there : (k : Kept) (s : Stand) (label : Word) (ws : List Word) (proof : Option Proof) → stand_of k ≡ s
    → record (stand_of k) { scope = with_assertion (scope_of k) label ws proof } ≡ record s {
      scope =
          with_assertion s.scope label ws proof;
    }
unfolding stand_of
asserted_there k s label ws proof e =
    let f : Stand → Stand = λ s. record s { scope = with_assertion s.scope label ws proof } in
    ap f e
