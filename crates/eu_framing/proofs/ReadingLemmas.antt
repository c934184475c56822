-- Laws of the bytes that are still to come.
use Rattle.std.proofs.Common.{Result, Ok, Err, IfErr, OnOk, ◌≡◌, ℕ, ◌≤◌, ◌<◌, inl, inr, Bool, List, [], ◌++◌, length, drop, Option, Some, None, refl, sym, ap, ◌∙◌, subst, append_assoc, append-nil, length-append, arith}
use Rattle.std.specs.Io.KnownBytes.{Keeps, IsAtEnd}
use Rattle.eu_base.specs.declared.faults.Fault.{Fault}
use Rattle.eu_framing.specs.Message.{pending, OfBytes, Between}
use Rattle.eu_framing.specs.Reading.{Grows, Halts, Fails, IsCutBy, Comes, Blames, Longer}

keeps_refl : (a : Option (List ℕ)) → Keeps a a
keeps_refl None = tt
keeps_refl (Some xs) = refl

keeps_trans : (a b c : Option (List ℕ)) → Keeps a b → Keeps b c → Keeps a c
keeps_trans None b c x y = tt
keeps_trans (Some xs) None c x y = absurd x
keeps_trans (Some xs) (Some ys) None x y = absurd y
keeps_trans (Some xs) (Some ys) (Some zs) x y = y ∙ x

pub grows_none : (left : Option (List ℕ)) (failed : Bool) (buffer : List ℕ) → Grows left failed buffer left failed buffer
grows_none left failed buffer = record { kept = keeps_refl (pending buffer left); sound = refl; more = []; grown = sym (append-nil buffer) }

pub grows_more : {l m n : Option (List ℕ)} {f g h : Bool} {a b c : List ℕ} → Grows l f a m g b → Grows m g b n h c → Grows l f a n h c
grows_more {l = l} {m = m} {n = n} {f = f} {g = g} {h = h} {a = a} {b = b} {c = c} x y = record {
  kept = keeps_trans (pending a l) (pending b m) (pending c n) x.kept y.kept;
  sound = y.sound ∙ x.sound;
  more = x.more ++ y.more;
  grown = y.grown ∙ ap (λ (t : List ℕ). t ++ y.more) x.grown ∙ append_assoc a x.more y.more;
}

-- what holds whatever comes
pub comes_now : (left : Option (List ℕ)) (buffer : List ℕ) (P : List ℕ → Type 0) → ((coming : List ℕ) → P (buffer ++ coming)) → Comes left buffer P
comes_now None buffer P x = ([], tt, x [])
comes_now (Some xs) buffer P x = (xs, refl, x xs)

-- what holds where nothing comes
pub comes_end : (left : Option (List ℕ)) (buffer : List ℕ) (P : List ℕ → Type 0) → IsAtEnd left → P buffer → Comes left buffer P
comes_end None buffer P ends x = ([], tt, subst P (sym (append-nil buffer)) x)
comes_end (Some xs) buffer P ends x = ([], sym ends, subst P (sym (append-nil buffer)) x)

-- what comes later comes
pub comes_later : {l m : Option (List ℕ)} {f g : Bool} {a b : List ℕ} (P : List ℕ → Type 0) → Grows l f a m g b → Comes m b P → Comes l a P
comes_later {l = None} {m = m} {f = f} {g = g} {a = a} {b = b} P x y = (x.more ++ y.0, tt, subst P (ap (λ (t : List ℕ). t ++ y.0) x.grown ∙ append_assoc a x.more y.0) y.2)
comes_later {l = Some xs} {m = None} {f = f} {g = g} {a = a} {b = b} P x y = absurd x.kept
comes_later {l = Some xs} {m = Some ys} {f = f} {g = g} {a = a} {b = b} P x y = (xs, refl, subst P (ap (λ (t : List ℕ). b ++ t) y.1 ∙ x.kept) y.2)

halts_later : {l m n : Option (List ℕ)} {f g : Bool} {a b c : List ℕ} {P : List ℕ → Type 0} → Grows l f a m g b → Halts m b n c P → Halts l a n c P
halts_later {l = l} {m = m} {n = n} {f = f} {g = g} {a = a} {b = b} {c = c} x y = record {
  kept = keeps_trans (pending a l) (pending b m) (pending c n) x.kept y.kept;
  more = x.more ++ y.more;
  grown = y.grown ∙ ap (λ (t : List ℕ). t ++ y.more) x.grown ∙ append_assoc a x.more y.more;
  cut = y.cut;
}

halts_so : {l n : Option (List ℕ)} {a c : List ℕ} (P Q : List ℕ → Type 0) → ((more : List ℕ) → c ≡ a ++ more → P c → Q c) → Halts l a n c P → Halts l a n c Q
halts_so P Q so x = record { kept = x.kept; more = x.more; grown = x.grown; cut = so x.more x.grown x.cut }

cut_so : (buffer buffer' more : List ℕ) (P Q : List ℕ → Fault → Type 0) → ((coming : List ℕ) (fault : Fault) → P (buffer ++ coming) fault → Q (buffer ++ coming) fault) → buffer' ≡ buffer ++ more → IsCutBy P buffer' → IsCutBy Q buffer'
cut_so buffer buffer' more P Q so e (inl ends) = inl ends
cut_so buffer buffer' more P Q so e (inr (fault, bad)) = inr (fault, subst (λ (t : List ℕ). Q t fault) (sym e) (so more fault (subst (λ (t : List ℕ). P t fault) e bad)))

-- a fault of a fill, where what the buffer held begins with nothing whole
pub blames_fill : {l m n : Option (List ℕ)} {f g failed : Bool} {a b c : List ℕ} {fault : Fault} (P : List ℕ → Fault → Type 0) → Grows l f a m g b → IsCutBy P b → Fails failed m b n c fault (λ bytes. bytes ≡ b) → Blames failed l a n c fault P
blames_fill P x cut (inl memory) = inl (inl memory)
blames_fill {b = b} P x cut (inr (is, failed, halts)) = inl (inr (is, failed, halts_later x (halts_so (λ bytes. bytes ≡ b) (IsCutBy P) (λ more e same. subst (IsCutBy P) (sym same) cut) halts)))

-- the same of a fill up to so many bytes
pub blames_short : {l n : Option (List ℕ)} {failed : Bool} {a c : List ℕ} {fault : Fault} (wanted : ℕ) (P : List ℕ → Fault → Type 0) (cut : Fault)
    → ((bytes more : List ℕ) → bytes ≡ a ++ more → length bytes < wanted → P bytes cut) → Fails failed l a n c fault (λ bytes. length bytes < wanted) → Blames failed l a n c fault P
blames_short wanted P cut so (inl memory) = inl (inl memory)
blames_short {c = c} wanted P cut so (inr (is, failed, halts)) = inl (inr (is, failed, halts_so (λ bytes. length bytes < wanted) (IsCutBy P) (λ more e short. inr (cut, so c more e short)) halts))

pub blames_later : {l m n : Option (List ℕ)} {f g failed : Bool} {a b c : List ℕ} {fault : Fault} (P : List ℕ → Fault → Type 0) → Grows l f a m g b → Blames failed m b n c fault P → Blames failed l a n c fault P
blames_later P x (inl (inl memory)) = inl (inl memory)
blames_later P x (inl (inr (is, failed, halts))) = inl (inr (is, failed, halts_later x halts))
blames_later {fault = fault} P x (inr comes) = inr (comes_later (λ (bytes : List ℕ). P bytes fault) x comes)

-- the same with another word of the fault
pub blames_so : {n : Option (List ℕ)} {c : List ℕ} (left : Option (List ℕ)) (failed : Bool) (buffer : List ℕ) (fault : Fault) (P Q : List ℕ → Fault → Type 0) → ((coming : List ℕ) (f : Fault) → P (buffer ++ coming) f → Q (buffer ++ coming) f) → Blames failed left buffer n c fault P → Blames failed left buffer n c fault Q
blames_so left failed buffer fault P Q so (inl (inl memory)) = inl (inl memory)
blames_so {c = c} left failed buffer fault P Q so (inl (inr (is, fails, halts))) = inl (inr (is, fails, halts_so (IsCutBy P) (IsCutBy Q) (λ more e cut. cut_so buffer c more P Q so e cut) halts))
blames_so left failed buffer fault P Q so (inr comes) = inr (comes.0, comes.1, so comes.0 fault comes.2)

pub of_bytes : (left : Option (List ℕ)) (buffer : List ℕ) (P : List ℕ → Type 0) → Comes left buffer P → OfBytes (pending buffer left) P
of_bytes None buffer P x = (buffer ++ x.0, x.2)
of_bytes (Some xs) buffer P x = subst (λ (t : List ℕ). P (buffer ++ t)) x.1 x.2

-- what was used is dropped from the front
pub between : {l m : Option (List ℕ)} {f g : Bool} {a b : List ℕ} (n : ℕ) (P : List ℕ → List ℕ → Type 0) → Grows l f a m g b → ((coming : List ℕ) → P (b ++ coming) (drop n b ++ coming)) → Between (pending a l) (pending (drop n b) m) P
between {l = None} {m = m} {f = f} {g = g} {a = a} {b = b} n P x y = (b ++ [], drop n b ++ [], y [])
between {l = Some xs} {m = None} {f = f} {g = g} {a = a} {b = b} n P x y = absurd x.kept
between {l = Some xs} {m = Some ys} {f = f} {g = g} {a = a} {b = b} n P x y = subst (λ (t : List ℕ). P t (drop n b ++ ys)) x.kept (y ys)

-- a fault of the bytes in the buffer, whatever comes, or where nothing comes
pub blames_now : {l m n : Option (List ℕ)} {f g : Bool} {a b c : List ℕ} (failed : Bool) (fault : Fault) (P : List ℕ → Fault → Type 0) → Grows l f a m g b → ((more : List ℕ) → P (b ++ more) fault) → Blames failed l a n c fault P
blames_now {m = m} {b = b} failed fault P x y = inr (comes_later (λ (bytes : List ℕ). P bytes fault) x (comes_now m b (λ (bytes : List ℕ). P bytes fault) y))

pub blames_end : {l m n : Option (List ℕ)} {f g : Bool} {a b c : List ℕ} (failed : Bool) (fault : Fault) (P : List ℕ → Fault → Type 0) → Grows l f a m g b → IsAtEnd m → P b fault → Blames failed l a n c fault P
blames_end {m = m} {b = b} failed fault P x ends y = inr (comes_later (λ (bytes : List ℕ). P bytes fault) x (comes_end m b (λ (bytes : List ℕ). P bytes fault) ends y))

pub blames_so_now : {A : Type 0} {l m : Option (List ℕ)} {f g : Bool} {a b : List ℕ} (n : Option (List ℕ)) (c : List ℕ) (failed : Bool) (P : List ℕ → Fault → Type 0) (r : Result A Fault) → Grows l f a m g b → IfErr r (λ fault. (more : List ℕ) → P (b ++ more) fault) → IfErr r (λ fault. Blames failed l a n c fault P)
blames_so_now n c failed P (Ok x) grows y = tt
blames_so_now n c failed P (Err fault) grows y = blames_now failed fault P grows y

pub blames_so_end : {A : Type 0} {l m : Option (List ℕ)} {f g : Bool} {a b : List ℕ} (n : Option (List ℕ)) (c : List ℕ) (failed : Bool) (P : List ℕ → Fault → Type 0) (r : Result A Fault) → Grows l f a m g b → IsAtEnd m → IfErr r (P b) → IfErr r (λ fault. Blames failed l a n c fault P)
blames_so_end n c failed P (Ok x) grows ends y = tt
blames_so_end n c failed P (Err fault) grows ends y = blames_end failed fault P grows ends y

-- the buffer is no shorter
pub grows_length : {l m : Option (List ℕ)} {f g : Bool} {a b : List ℕ} → Grows l f a m g b → length a ≤ length b
grows_length {a = a} {b = b} x = omega (arith, ap length x.grown, length-append a x.more)

-- what holds either way holds where it went well
pub on_ok : {A P : Type 0} (r : Result A Fault) → P → OnOk r P
on_ok (Ok x) p = p
on_ok (Err fault) p = tt

-- The buffer has more behind it.

pub longer_same : (a b : List ℕ) → b ≡ a → Longer a b
longer_same a b e = record { more = []; grown = e ∙ sym (append-nil a) }

pub longer_more : {a b c : List ℕ} → Longer a b → Longer b c → Longer a c
longer_more {a = a} x y = record {
  more = x.more ++ y.more;
  grown = y.grown ∙ ap (λ (t : List ℕ). t ++ y.more) x.grown ∙ append_assoc a x.more y.more;
}

pub longer_grows : {l m : Option (List ℕ)} {f g : Bool} {a b : List ℕ} → Grows l f a m g b → Longer a b
longer_grows x = record { more = x.more; grown = x.grown }
