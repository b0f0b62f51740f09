-- The passes and the records that are taken out of sessions at the end.
use Rattle.std.proofs.Common.{◌≡◌, List, [], ◌∷◌, ◌++◌, Vec, refl, sym, ap, ◌∙◌}
use Rattle.std.specs.Prelude.{All}
use Rattle.std.specs.declared.alloc.Global.{Global}
use Rattle.std.proofs.lemmas.List.{map-append}
use Rattle.std.proofs.lemmas.List.Elements.{All-append, All-cons, All-head, All-nil, All-tail}
use Rattle.atomic_table.specs.Seated.{TableId}
use Rattle.tlwords.specs.Known.{WordsHome}
use Rattle.lawful.specs.declared.notes.Given.{Given}
use Rattle.lending.specs.Lent.{Pass}
use Rattle.transaction.specs.declared.outcome.Record.{Record}
use Rattle.transaction.specs.Members.{Home, Member, IsSessionOf, IsMember}
use Rattle.transaction.specs.Closings.{AreTaken, passes_of}

pub none_taken : AreTaken [] [] []
none_taken = record { members_are = All-nil IsMember; passes_are = refl; records_are = refl }

-- one session more
pub one_taken : (ms : List Member) (passes : List Pass) (records : List (Vec Record Global)) (m : Member) (k : Pass)
    (own : Vec Record Global)
    → AreTaken ms passes records → IsMember m → k ≡ m.known → own.items ≡ m.records
    → AreTaken (ms ++ m ∷ []) (passes ++ k ∷ []) (records ++ own ∷ [])
one_taken ms passes records m k own taken is known records_are = record {
  members_are = All-append IsMember ms (m ∷ []) taken.members_are (All-cons IsMember m [] is (All-nil IsMember));
  passes_are =
      (λ i. taken.passes_are i ++ known i ∷ []) ∙ sym (map-append (λ (x : Member). x.known) ms (m ∷ []));
  records_are =
      map-append (λ (x : Vec Record Global). x.items) records (own ∷ [])
      ∙ (λ i. taken.records_are i ++ records_are i ∷ []) ∙ sym (map-append (λ (x : Member). x.records) ms (m ∷ []));
}

-- each sits at the table of the library's words
pub all_seated : (home : Home) (table : TableId) (ms : List Member) → home.words.table ≡ table → All (IsSessionOf home) ms
    → All (λ (k : Pass). k.home.table ≡ table) (passes_of ms)
all_seated home table [] same are = All-nil (λ (k : Pass). k.home.table ≡ table)
all_seated home table (m ∷ ms) same are =
    All-cons (λ (k : Pass). k.home.table ≡ table) m.known (passes_of ms)
    (ap (λ (h : WordsHome Given). h.table) (All-head (IsSessionOf home) m ms are) ∙ same)
    (all_seated home table ms same (All-tail (IsSessionOf home) m ms are))
