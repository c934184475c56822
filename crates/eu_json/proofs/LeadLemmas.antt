-- Texts of objects, with what leads to each value
use Rattle.std.proofs.Common.{◌≡◌, ℕ, List, ◌∷◌, ◌++◌, codes, decimal, refl, sym, ap, ◌∙◌, append_assoc}
use Rattle.json.specs.Print.{quoted, escape_byte}
use Rattle.serde_json.specs.Data.{Data, object, string, Members, no_members, member}
use Rattle.serde_json.specs.Written.{compact_text}
use Rattle.eu_text.specs.Text.{led, led_member}
use Rattle.eu_text.proofs.TextLemmas.{text_led}
use Rattle.eu_json.specs.Tree.{alone, whole_number}

pub three : (o a b e : List ℕ) → ((o ++ a) ++ b) ++ e ≡ o ++ (a ++ (b ++ e))
three o a b e = append_assoc (o ++ a) b e ∙ append_assoc o a (b ++ e)

pub five : (o a b c d e : List ℕ) → ((((o ++ a) ++ b) ++ c) ++ d) ++ e ≡ o ++ (a ++ (b ++ (c ++ (d ++ e))))
five o a b c d e = append_assoc (((o ++ a) ++ b) ++ c) d e ∙ append_assoc ((o ++ a) ++ b) c (d ++ e) ∙ three o a b (c ++ (d ++ e))

pub instance_text : (d : Data) → codes "{\"instance\":" ++ (compact_text d ++ codes "}") ≡ compact_text (alone (codes "instance") d)
unfolding escape_byte
instance_text d = refl

pub application_text : (d : Data) → codes "{\"application\":" ++ (compact_text d ++ codes "}") ≡ compact_text (alone (codes "application") d)
unfolding escape_byte
application_text d = refl

pub item_text : (d e : Data) → codes "{\"instance\":" ++ (compact_text d ++ (codes ",\"name\":" ++ (compact_text e ++ codes "}")))
    ≡ compact_text (object (member (codes "instance") d (member (codes "name") e no_members)))
unfolding escape_byte
item_text d e = refl

pub applications_text : (d e : Data) → codes "{\"applications\":{\"application\":" ++ (compact_text d ++ (codes ",\"apps__hashcode\":" ++ (compact_text e ++ codes ",\"versions__delta\":\"1\"}}")))
    ≡ compact_text (alone (codes "applications") (object (member (codes "application") d (member (codes "apps__hashcode") e (member (codes "versions__delta") (string (codes "1")) no_members)))))
unfolding escape_byte
applications_text d e = sym (ap (λ s. codes "{\"applications\":{\"application\":" ++ s)
    (append_assoc (compact_text d) (codes ",\"apps__hashcode\":" ++ (compact_text e ++ codes ",\"versions__delta\":\"1\"}")) (codes "}")
    ∙ ap (λ s. compact_text d ++ (codes ",\"apps__hashcode\":" ++ s)) (append_assoc (compact_text e) (codes ",\"versions__delta\":\"1\"}") (codes "}"))))

pub batch_text : (d : Data) → codes "{\"replicationList\":" ++ (compact_text d ++ codes "}") ≡ compact_text (alone (codes "replicationList") d)
unfolding escape_byte
batch_text d = refl

pub answers_text : (d : Data) → codes "{\"responseList\":" ++ (compact_text d ++ codes "}") ≡ compact_text (alone (codes "responseList") d)
unfolding escape_byte
answers_text d = refl

pub conflict_text : (d : Data) (code : ℕ) → codes "{\"responseEntity\":" ++ (compact_text d ++ (codes ",\"statusCode\":" ++ (decimal code ++ codes "}")))
    ≡ compact_text (object (member (codes "responseEntity") d (member (codes "statusCode") (whole_number code) no_members)))
unfolding escape_byte
conflict_text d code = refl

-- a member that is appended behind its lead
pub led_value : (k lead v : List ℕ) (d : Data) → ((s : List ℕ) → lead ++ s ≡ 44 ∷ (quoted k ++ 58 ∷ s)) → v ≡ compact_text d → (s : List ℕ) → lead ++ (v ++ s) ≡ led_member k d ++ s
led_value k lead v d leads is s = leads (v ++ s) ∙ ap (λ t. 44 ∷ (quoted k ++ 58 ∷ (t ++ s))) is ∙ ap (λ t. 44 ∷ t) (sym (append_assoc (quoted k) (58 ∷ compact_text d) s))

pub lead_info : (s : List ℕ) → codes ",\"instanceInfo\":" ++ s ≡ 44 ∷ (quoted (codes "instanceInfo") ++ 58 ∷ s)
unfolding escape_byte
lead_info s = refl

-- a task: its own three members, and those of its instance
pub task_text : (a b c : List ℕ) (ms : Members) → codes "{\"action\":" ++ (quoted a ++ (codes ",\"appName\":" ++ (quoted b ++ (codes ",\"id\":" ++ (quoted c ++ (led ms ++ codes "}"))))))
    ≡ compact_text (object (member (codes "action") (string a) (member (codes "appName") (string b) (member (codes "id") (string c) ms))))
unfolding escape_byte
task_text a b c ms = ap (λ s. codes "{\"action\":" ++ (quoted a ++ (codes ",\"appName\":" ++ (quoted b ++ (codes ",\"id\":" ++ (quoted c ++ s)))))) (sym (text_led ms))
