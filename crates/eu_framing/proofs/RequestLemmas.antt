-- From what stands in the buffer to the next request of all bytes.
use Rattle.std.proofs.Common.{◌≡◌, ℕ, ◌<◌, ◌≤◌, ◌⊎◌, inl, inr, Bool, true, List, ◌++◌, length, take, drop, Option, Some, Ok, Err, IsUtf8, refl, sym, ap, ◌∙◌, append_assoc, arith}
use Rattle.std.proofs.lemmas.List.{length-take, length-map, take-append-drop}
use Rattle.std.proofs.lemmas.List.Elements.{All-weaker}
use Rattle.std.proofs.lemmas.Str.{IsUtf8-from_ascii}
use Rattle.std.proofs.lemmas.Str.Ascii.{IsAscii-from_all}
use Rattle.std.proofs.lemmas.Bool.Decides.{nat_tests}
use Rattle.httparse.specs.Grammar.{RequestHead, is_token_byte, IsToken}
use Rattle.httparse.specs.Spans.{IsRequestAt, header_bytes, name_and_value}
use Rattle.httparse.specs.declared.spans.HeaderSpan.{HeaderSpan}
use Rattle.httparse.specs.declared.spans.RequestSpans.{RequestSpans}
use Rattle.httparse.proofs.GrammarLemmas.{ReadsRequest-append}
use Rattle.eu_base.specs.declared.faults.Fault.{Fault}
use Rattle.eu_framing.specs.declared.request.Head.{Head}
use Rattle.eu_framing.specs.declared.request.Request.{Request}
use Rattle.eu_framing.specs.Message.{pending, OfBytes, max_head, max_fields, HasHead, IsFault, ReadsBody, BreaksBody, FindsNext, Interrupts}
use Rattle.eu_framing.specs.Reading.{Blames}
use Rattle.eu_framing.specs.Steps.{HasHeadAt}
use Rattle.eu_framing.specs.HeadSteps.{GivesHead, FindsHead, Makes}
use Rattle.eu_framing.proofs.BodyLemmas.{behind}
use Rattle.eu_framing.proofs.ChunkLemmas.{window_rest}
use Rattle.eu_framing.proofs.ReadingLemmas.{of_bytes}

-- a method is ASCII
token_is_ascii : (b : ℕ) → is_token_byte b ≡ true → b < 128
unfolding is_token_byte
token_is_ascii b token = grind (arith, nat_tests)

pub method_text : (word : List ℕ) → IsToken word → IsUtf8 word
method_text word x = IsUtf8-from_ascii word (IsAscii-from_all word (All-weaker (λ b. is_token_byte b ≡ true) (λ b. b < 128) token_is_ascii word x.1))

-- the head in the window is the head of all bytes
head_at : (b more : List ℕ) (spans : List HeaderSpan) (r : RequestSpans) (h : RequestHead) → length spans ≡ max_fields → r.len ≤ length (take max_head b) → IsRequestAt (take max_head b) spans r h → HasHead (b ++ more) h (drop r.len b ++ more)
head_at b more spans r h many within at =
    let w = take max_head b in
    let rest = drop max_head b ++ more in
    let whole : w ++ rest ≡ b ++ more = sym (append_assoc w (drop max_head b) more) ∙ ap (λ (t : List ℕ). t ++ more) (take-append-drop max_head b) in
    let after : drop r.len w ++ rest ≡ drop r.len b ++ more = sym (append_assoc (drop r.len w) (drop max_head b) more) ∙ ap (λ (t : List ℕ). t ++ more) (window_rest r.len max_head b within) in
    record {
      reads = rw after at (rw whole at (ReadsRequest-append w h (drop r.len w) rest at.reads));
      short = omega (arith, at.len, within, length-take max_head b);
      few = omega (arith, many, ap length at.fields, length-map (take r.headers spans) (header_bytes w), length-map h.fields name_and_value, length-take r.headers spans);
    }

pub next_found : (b : List ℕ) (spans : List HeaderSpan) (r : RequestSpans) (head : Head) → length spans ≡ max_fields → HasHeadAt b spans r → GivesHead (take max_head b) spans r (Ok head) → head.len ≡ r.len → FindsHead (Some head) b
next_found b spans r head many x gives len =
    let within = x.0.section.len_fits in
    (x.1.0, λ more. rw len (head_at b more spans r x.1.0 many within x.1.1), gives x.1.0 x.1.1, omega (arith, len, within, length-take max_head b), omega (arith, len, within, length-take max_head b))

pub next_broken : {left' : Option (List ℕ)} {b' : List ℕ} (failed : Bool) (left : Option (List ℕ)) (b : List ℕ) (spans : List HeaderSpan) (r : RequestSpans) (fault : Fault) → length spans ≡ max_fields → HasHeadAt b spans r → GivesHead (take max_head b) spans r (Err fault)
    → (((more : List ℕ) → IsFault (b ++ more) fault) → Blames failed left b left' b' fault IsFault) → Blames failed left b left' b' fault IsFault
next_broken failed left b spans r fault many x (inl memory) now = inl (inl memory)
next_broken failed left b spans r fault many x (inr bad) now =
    now (λ more. inr (x.1.0, drop r.len b ++ more, head_at b more spans r x.1.0 many x.0.section.len_fits x.1.1, inl (bad x.1.0 x.1.1)))

-- the head stands before more bytes
head_later : (b b' grown more : List ℕ) (n : ℕ) (h : RequestHead) → b' ≡ b ++ grown → n ≤ length b → ((x : List ℕ) → HasHead (b ++ x) h (drop n b ++ x)) → HasHead (b' ++ more) h (drop n (b' ++ more))
head_later b b' grown more n h e within has =
    rw e (rw append_assoc (rw (behind n b (grown ++ more) within) (has (grown ++ more))))

pub body_broken : (b more : List ℕ) (head : Head) (fault : Fault) → FindsHead (Some head) b → BreaksBody head.framing (drop head.len (b ++ more)) fault → IsFault (b ++ more) fault
body_broken b more head fault x bad =
    inr (x.0, drop head.len (b ++ more), rw (behind head.len b more x.3) (x.1 more), inr (head.framing, x.2.framing, bad))

pub next_whole : (b b' grown more rest : List ℕ) (head : Head) (request : Request) → b' ≡ b ++ grown → FindsHead (Some head) b → Makes request head → ReadsBody head.framing (drop head.len (b' ++ more)) request.body.items rest → FindsNext (Some request) (b' ++ more) rest
next_whole b b' grown more rest head request e x makes reads =
    let of = x.2 in (
      record { head = x.0; body = request.body.items },
      record {
        method = rw makes.method of.method;
        target = rw makes.target of.target;
        minor = makes.minor ∙ of.minor;
        closes_is = makes.closes ∙ of.closes_is;
        replicated = makes.replicated ∙ of.replicated;
        origins = rw makes.origins of.origins;
        body = refl;
      },
      (drop head.len (b' ++ more), head_later b b' grown more head.len x.0 e x.3 x.1, head.framing, of.framing, reads),
    )

-- a fault for the caller
pub told : (failed : Bool) (left : Option (List ℕ)) (b : List ℕ) (left' : Option (List ℕ)) (b' : List ℕ) (fault : Fault) → Blames failed left b left' b' fault IsFault
    → Interrupts failed (pending b left) (pending b' left') b' fault ⊎ OfBytes (pending b left) (λ bytes. IsFault bytes fault)
told failed left b left' b' fault (inl (inl memory)) = inl (inl memory)
told failed left b left' b' fault (inl (inr (is, fails, halts))) = inl (inr (is, fails, halts.kept, halts.cut))
told failed left b left' b' fault (inr comes) = inr (of_bytes left b (λ (bytes : List ℕ). IsFault bytes fault) comes)
