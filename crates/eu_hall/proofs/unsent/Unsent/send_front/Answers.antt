use Rattle.std.proofs.Common.{◌≡◌, ℕ, ◌+◌, ◌≤◌, List, ◌++◌, Option, length, take, drop, ap, sym, ◌∙◌, subst, arith, length-take, take-append-drop}
use Rattle.std.proofs.lemmas.List.{drop-drop, take-take}
use Rattle.std.specs.Io.KnownBytes.{Appends}
use Rattle.eu_hall.specs.Sending.{Goes}
use Rattle.eu_hall.proofs.unsent.Unsent.send_front.Goals as goal

-- the writer took so many of the bytes that were given to it, and those after them are left
goes : (old new : Option (List ℕ)) (items given before after : List ℕ) (sent most count : ℕ) → given ≡ items → before ≡ drop sent items → after ≡ drop (sent + count) items → count ≤ length (take most (drop sent given)) → Appends old new (take count (take most (drop sent given))) → Goes old new before after
goes old new items given before after sent most count same was is bound wrote =
    let front : take count (take most (drop sent given)) ≡ take count (drop sent given) = take-take count most (drop sent given) (omega (arith, bound, length-take most (drop sent given))) in
    let family : List ℕ → Type 0 = λ l. Appends old new (take count (drop sent l)) in
    record {
      front = take count (drop sent items);
      parts = was ∙ sym (take-append-drop count (drop sent items)) ∙ ap (λ l. take count (drop sent items) ++ l) (drop-drop count sent items ∙ sym is);
      went = subst family same (rw front at wrote);
    }

pub returns-clause-bytes : goal.returns-clause-bytes
returns-clause-bytes g c = goes _ _ _ _ _ _ _ _ _ c.deref.ensures.value (sym (ap (λ w. w.rest) c.self.view_is)) c.let_go.ensures.rest c.write_front-count.ensures.bound c.write_front-count.ensures.bytes
