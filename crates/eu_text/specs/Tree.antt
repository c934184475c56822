-- How a JSON tree is told apart from another: by the steps that build it, each on what the steps before left
use Rattle.std.specs.Prelude.{◌≡◌, ◌⊎◌, ℕ, zero, suc, ℤ, Float, Bool, List, [], ◌∷◌, ◌++◌, refl}
use Rattle.std.specs.Coded.{Coded, code_by, coded⊎, coded_list, coded_ℕ, coded_ℤ, coded_bool}
use base.Stored.{coded_float}
use mathlib.Core.Logic.{inl, inr}
use mathlib.Core.Path.{ap, ◌∙◌}
use Rattle.serde_json.specs.Data.{Num, unsigned, negative, float, Data, null, boolean, number, string, array, object, Items, no_items, item, Members, no_members, member}

-- a leaf, or a step that takes what was built last
pub data Build : Type 0 where
  Leaf : Build
  Truth : Bool → Build
  Unsigned : ℕ → Build
  Negative : ℤ → Build
  Fraction : Float → Build
  Text : List ℕ → Build
  NoItems : Build
  Item : Build
  Array : Build
  NoMembers : Build
  Member : List ℕ → Build
  Object : Build

-- what was built
pub data Built : Type 0 where
  Tree : Data → Built
  Some_items : Items → Built
  Some_members : Members → Built

abbrev steps_of_number : Num → Build
steps_of_number (unsigned n) = Unsigned n
steps_of_number (negative z) = Negative z
steps_of_number (float x) = Fraction x

abbrev mutual
  pub steps : Data → List Build
  steps null = Leaf ∷ []
  steps (boolean b) = Truth b ∷ []
  steps (number n) = steps_of_number n ∷ []
  steps (string s) = Text s ∷ []
  steps (array ds) = steps_of_items ds ++ Array ∷ []
  steps (object ms) = steps_of_members ms ++ Object ∷ []

  pub steps_of_items : Items → List Build
  steps_of_items no_items = NoItems ∷ []
  steps_of_items (item d ds) = steps d ++ (steps_of_items ds ++ Item ∷ [])

  pub steps_of_members : Members → List Build
  steps_of_members no_members = NoMembers ∷ []
  steps_of_members (member k d ms) = steps d ++ (steps_of_members ms ++ Member k ∷ [])

abbrev take : Build → List Built → List Built
take Leaf built = Tree null ∷ built
take (Truth b) built = Tree (boolean b) ∷ built
take (Unsigned n) built = Tree (number (unsigned n)) ∷ built
take (Negative z) built = Tree (number (negative z)) ∷ built
take (Fraction x) built = Tree (number (float x)) ∷ built
take (Text s) built = Tree (string s) ∷ built
take NoItems built = Some_items no_items ∷ built
take Item (Some_items ds ∷ Tree d ∷ built) = Some_items (item d ds) ∷ built
take Item built = built
take Array (Some_items ds ∷ built) = Tree (array ds) ∷ built
take Array built = built
take NoMembers built = Some_members no_members ∷ built
take (Member k) (Some_members ms ∷ Tree d ∷ built) = Some_members (member k d ms) ∷ built
take (Member k) built = built
take Object (Some_members ms ∷ built) = Tree (object ms) ∷ built
take Object built = built

abbrev build : List Build → List Built → List Built
build [] built = built
build (s ∷ ss) built = build ss (take s built)

abbrev top : List Built → Data
top (Tree d ∷ built) = d
top _ = null

build-append : (xs ys : List Build) (built : List Built) → build (xs ++ ys) built ≡ build ys (build xs built)
build-append [] ys built = refl
build-append (x ∷ xs) ys built = build-append xs ys (take x built)

mutual
  pub builds : (d : Data) (built : List Built) → build (steps d) built ≡ Tree d ∷ built
  builds null built = refl
  builds (boolean b) built = refl
  builds (number (unsigned n)) built = refl
  builds (number (negative z)) built = refl
  builds (number (float x)) built = refl
  builds (string s) built = refl
  builds (array ds) built = build-append (steps_of_items ds) (Array ∷ []) built ∙ ap (build (Array ∷ [])) (builds_items ds built)
  builds (object ms) built = build-append (steps_of_members ms) (Object ∷ []) built ∙ ap (build (Object ∷ [])) (builds_members ms built)

  builds_items : (ds : Items) (built : List Built) → build (steps_of_items ds) built ≡ Some_items ds ∷ built
  builds_items no_items built = refl
  builds_items (item d ds) built =
      build-append (steps d) (steps_of_items ds ++ Item ∷ []) built
      ∙ ap (build (steps_of_items ds ++ Item ∷ [])) (builds d built)
      ∙ build-append (steps_of_items ds) (Item ∷ []) (Tree d ∷ built)
      ∙ ap (build (Item ∷ [])) (builds_items ds (Tree d ∷ built))

  builds_members : (ms : Members) (built : List Built) → build (steps_of_members ms) built ≡ Some_members ms ∷ built
  builds_members no_members built = refl
  builds_members (member k d ms) built =
      build-append (steps d) (steps_of_members ms ++ Member k ∷ []) built
      ∙ ap (build (steps_of_members ms ++ Member k ∷ [])) (builds d built)
      ∙ build-append (steps_of_members ms) (Member k ∷ []) (Tree d ∷ built)
      ∙ ap (build (Member k ∷ [])) (builds_members ms (Tree d ∷ built))

-- a step as a sum: with a value, or one of six
abbrev Sum : Type 0
Sum = Bool ⊎ (ℕ ⊎ (ℤ ⊎ (Float ⊎ (List ℕ ⊎ (List ℕ ⊎ ℕ)))))

abbrev to_sum : Build → Sum
to_sum (Truth b) = inl b
to_sum (Unsigned n) = inr (inl n)
to_sum (Negative z) = inr (inr (inl z))
to_sum (Fraction x) = inr (inr (inr (inl x)))
to_sum (Text s) = inr (inr (inr (inr (inl s))))
to_sum (Member k) = inr (inr (inr (inr (inr (inl k)))))
to_sum Leaf = inr (inr (inr (inr (inr (inr 0)))))
to_sum NoItems = inr (inr (inr (inr (inr (inr 1)))))
to_sum Item = inr (inr (inr (inr (inr (inr 2)))))
to_sum Array = inr (inr (inr (inr (inr (inr 3)))))
to_sum NoMembers = inr (inr (inr (inr (inr (inr 4)))))
to_sum Object = inr (inr (inr (inr (inr (inr 5)))))

abbrev of_six : ℕ → Build
of_six zero = Leaf
of_six (suc zero) = NoItems
of_six (suc (suc zero)) = Item
of_six (suc (suc (suc zero))) = Array
of_six (suc (suc (suc (suc zero)))) = NoMembers
of_six (suc (suc (suc (suc (suc n))))) = Object

abbrev of_sum : Sum → Build
of_sum (inl b) = Truth b
of_sum (inr (inl n)) = Unsigned n
of_sum (inr (inr (inl z))) = Negative z
of_sum (inr (inr (inr (inl x)))) = Fraction x
of_sum (inr (inr (inr (inr (inl s))))) = Text s
of_sum (inr (inr (inr (inr (inr (inl k)))))) = Member k
of_sum (inr (inr (inr (inr (inr (inr n)))))) = of_six n

pub back : (s : Build) → of_sum (to_sum s) ≡ s
back Leaf = refl
back (Truth b) = refl
back (Unsigned n) = refl
back (Negative z) = refl
back (Fraction x) = refl
back (Text s) = refl
back NoItems = refl
back Item = refl
back Array = refl
back NoMembers = refl
back (Member k) = refl
back Object = refl

abbrev coded_build : Coded Build
coded_build =
    code_by Sum
    (coded⊎ coded_bool (coded⊎ coded_ℕ (coded⊎ coded_ℤ (coded⊎ coded_float (coded⊎ (coded_list coded_ℕ) (coded⊎ (coded_list coded_ℕ) coded_ℕ))))))
    to_sum of_sum back

-- a tree is stored as the steps that build it
abbrev pub coded_tree : Coded Data
coded_tree = code_by (List Build) (coded_list coded_build) steps (λ ss. top (build ss [])) (λ d. ap top (builds d []))
