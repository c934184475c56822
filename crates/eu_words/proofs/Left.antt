-- What is left of a line
use Rattle.std.proofs.Common.{◌≡◌, ◌≢◌, ℕ, true, false, List, [], ◌∷◌, Option, Some, None, refl, ap, sym, ◌∙◌}
use Rattle.std.specs.Borrow.{Bor}
use Rattle.std.specs.Option.{is_some}
use Rattle.eu_words.specs.Words.{words_left, end_at, number_at, peers_at}
use Rattle.eu_words.proofs.Texts.{words_some}

-- the words of what is left are none only where nothing is
pub none_left : (rest : Option (Bor (List ℕ))) → is_some rest ≡ false → words_left rest ≡ []
none_left None e = refl
none_left (Some text) e = cc

pub some_left : (rest : Option (Bor (List ℕ))) → is_some rest ≡ true → words_left rest ≢ []
some_left None e = cc
some_left (Some text) e = λ none.
    let h : end_at [] ≡ None = ap end_at (sym none) ∙ words_some text.now in
    cc

-- where a word is left, it tells how many peers there are
told : (ws : List (List ℕ)) → ws ≢ [] → peers_at ws ≡ number_at 8 ws
unfolding peers_at
told [] some = absurd (some refl)
told (w ∷ ws) some = refl

pub peers_told : (rest : Option (Bor (List ℕ))) → is_some rest ≡ true → peers_at (words_left rest) ≡ number_at 8 (words_left rest)
peers_told rest e = told (words_left rest) (some_left rest e)
