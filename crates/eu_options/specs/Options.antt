-- What the command line takes, and what its options say
use Rattle.std.specs.Prelude.{ℕ, Bool, Option, [], ◌∷◌, None, Some, ◌≡◌, true, false, codes, map, option_map, pos}
use Rattle.std.specs.Str.{bytes_eq}
use Rattle.std.specs.Str.Parse.{IsNumeral, digits_value, without_leading_plus}
use Rattle.std.specs.Net.Grammar.{IsIpText}
use Rattle.std.specs.declared.net.ip_addr.IpAddr.{IpAddr}
use Rattle.clap.specs.Words.{found_of, first_value, one_text, Rule, App, Text, new_rule, new_app, with_rule, with_subcommand}
use Rattle.clap.specs.declared.builder.action.ArgAction.TheVariants.{SetTrue}
use Rattle.clap.specs.declared.parser.matches.ArgMatches.{ArgMatches}
use Rattle.clap.specs.declared.builder.value_parser.ValueParser.{ValueParser}
use Rattle.clap.specs.declared.builder.value_parser.ValueParser.TheVariants.{Names, Signed, Unsigned}
use Rattle.eu_base.specs.declared.settings.Config.{Config}
use Rattle.eu_options.specs.declared.serving.Drawing.{Drawing}
use Rattle.eu_options.specs.declared.serving.Drawing.TheVariants.{FirstOnes, Seeded, FromSystem}
use Rattle.eu_options.specs.declared.serving.Serving.{Serving}

-- ---- the command line

-- the option `--NAME VALUE`, with the value that it has where it isn't given
abbrev pub option_rule : Text → ValueParser → Text → Rule
option_rule name parser default =
    record (new_rule name) { long = Some name; value_names = 1; parser = Some parser; defaults = default ∷ [] }

-- the option `--NAME N`, which has to be given
abbrev pub needed_rule : Text → ValueParser → Rule
needed_rule name parser =
    record (new_rule name) { long = Some name; value_names = 1; parser = Some parser; required = true }

-- the words "on" and "off", and no others
abbrev pub IsSwitchParser : ValueParser → Type 0
IsSwitchParser (Names words) = map (λ s. s.now) words.now ≡ codes "on" ∷ codes "off" ∷ []
IsSwitchParser _ = ⊥

-- the option `--seed N`, which may be left out
abbrev pub seed_rule : Rule
seed_rule = record (new_rule (codes "seed")) { long = Some (codes "seed"); value_names = 1; parser = Some (Unsigned 0 18446744073709551615) }

-- a command with the four settings of a registry more
abbrev pub with_settings : App → ValueParser → App
with_settings app switch =
    with_rule (with_rule (with_rule (with_rule app
    (option_rule (codes "preservation") switch (codes "on")))
    (option_rule (codes "percent") (Signed (pos 0) (pos 100)) (codes "85")))
    (option_rule (codes "interval") (Signed (pos 1) (pos 3600)) (codes "30")))
    (option_rule (codes "evict-ms") (Signed (pos 0) (pos 4294967295)) (codes "60000"))

-- a command with the five options of a script more
abbrev pub with_options : App → ValueParser → App
with_options app switch = with_rule (with_settings app switch) seed_rule

-- the option `--seed N|system` of a server, which may be left out; its value is judged once all words are known
abbrev pub drawing_rule : Rule
drawing_rule = record (new_rule (codes "seed")) { long = Some (codes "seed"); value_names = 1 }

-- the option `--NAME ADDRESS`, which is 127.0.0.1 where it isn't given; its value is judged once all words are known
abbrev pub address_rule : Text → Rule
address_rule name = record (new_rule name) { long = Some name; value_names = 1; defaults = codes "127.0.0.1" ∷ [] }

-- the option `--admin-port N`, which may be left out
abbrev pub admin_port_rule : Rule
admin_port_rule =
    record (new_rule (codes "admin-port")) { long = Some (codes "admin-port"); value_names = 1; parser = Some (Signed (pos 0) (pos 65535)) }

-- the option `--sessions N`, which has a rule on another option
abbrev pub sessions_rule : Rule
sessions_rule =
    record (new_rule (codes "sessions")) {
      long = Some (codes "sessions");
      value_names = 1;
      parser = Some (Signed (pos 0) (pos 4294967295));
      is_free = false;
    }

-- the option `--forever`, which has no value
abbrev pub forever_rule : Rule
forever_rule = record (new_rule (codes "forever")) { long = Some (codes "forever"); action = Some SetTrue }

-- the option `--until-input-ends`, which has no value
abbrev pub until_rule : Rule
until_rule = record (new_rule (codes "until-input-ends")) { long = Some (codes "until-input-ends"); action = Some SetTrue }

-- the option `--quiet`, which has no value
abbrev pub quiet_rule : Rule
quiet_rule = record (new_rule (codes "quiet")) { long = Some (codes "quiet"); action = Some SetTrue }

-- a command with the four options more that say where a server listens: a port of 16 bits, which has to be given, and an address; and the same of operators, where
-- the port may be left out
abbrev pub with_address : App → App
with_address app =
    with_rule (with_rule (with_rule (with_rule app
    (needed_rule (codes "port") (Signed (pos 0) (pos 65535))))
    (address_rule (codes "bind")))
    admin_port_rule)
    (address_rule (codes "admin-bind"))

-- a command with the five options more that say how much a server serves: a number of sessions, or no end by it, an end by its input, 1 to 16 workers, and a
-- number expected
abbrev pub with_work : App → App
with_work app =
    with_rule (with_rule (with_rule (with_rule (with_rule app
    sessions_rule)
    forever_rule)
    until_rule)
    (option_rule (codes "workers") (Signed (pos 1) (pos 16)) (codes "2")))
    (option_rule (codes "expected") (Signed (pos 0) (pos 4294967295)) (codes "1"))

-- a command with the four limits of a server more: 1 to 1,000,000 connections, two times of 32 bits that aren't 0, and one that may be
abbrev pub with_limits : App → App
with_limits app =
    with_rule (with_rule (with_rule (with_rule app
    (option_rule (codes "connections") (Signed (pos 1) (pos 1000000)) (codes "10000")))
    (option_rule (codes "idle-ms") (Signed (pos 1) (pos 4294967295)) (codes "90000")))
    (option_rule (codes "request-ms") (Signed (pos 1) (pos 4294967295)) (codes "10000")))
    (option_rule (codes "warm-up-ms") (Signed (pos 0) (pos 4294967295)) (codes "0"))

-- a command with that option more
abbrev pub with_quiet : App → App
with_quiet app = with_rule app quiet_rule

-- the option `--allow-origin ORIGIN`, which may be left out
abbrev pub origin_rule : Rule
origin_rule = record (new_rule (codes "allow-origin")) { long = Some (codes "allow-origin"); value_names = 1 }

-- a command with the three options more that say which requests a server takes: those of peers or not, bodies of 1 to 1,048,576 bytes, and those of an origin
abbrev pub with_policy : App → ValueParser → App
with_policy app switch =
    with_rule (with_rule (with_rule app
    (option_rule (codes "accept-peers") switch (codes "on")))
    (option_rule (codes "max-body") (Signed (pos 1) (pos 1048576)) (codes "1048576")))
    origin_rule

-- a command with the twenty-two options of a server more
abbrev pub with_server_options : App → ValueParser → ValueParser → App
with_server_options app switch peers =
    with_quiet (with_policy (with_limits (with_work (with_address (with_rule (with_settings app switch) drawing_rule)))) peers)

-- the option `--journal FILE`, which may be left out
abbrev pub journal_rule : Rule
journal_rule = record (new_rule (codes "journal")) { long = Some (codes "journal"); value_names = 1 }

-- a command with that option more
abbrev pub with_journal : App → App
with_journal app = with_rule app journal_rule

-- the subcommand has to be there, or `--version`
abbrev required : App → App
required app = record app { top = record app.top { subcommand_required = true; has_version = true } }

-- `eureka script`, `eureka audit` and `eureka serve` with their options
abbrev pub program_app : ValueParser → ValueParser → ValueParser → ValueParser → App
program_app one other third peers =
    with_subcommand (with_subcommand (with_subcommand (required (new_app (codes "eureka")))
    (with_journal (with_options (new_app (codes "script")) one)).top)
    (with_journal (with_options (new_app (codes "audit")) other)).top)
    (with_journal (with_server_options (new_app (codes "serve")) third peers)).top

-- ---- what was given

-- the text of the option of that name is decimal digits, and spells n
abbrev pub IsNumber : ArgMatches → Text → ℕ → Type 0
IsNumber m name n =
    (t : Text) × (one_text (found_of m) name ≡ Some t) × IsNumeral 10 (without_leading_plus t)
    × (digits_value 10 (without_leading_plus t) ≡ n)

-- the option of that name has a word, and b says whether it is "on"
abbrev pub IsSwitch : ArgMatches → Text → Bool → Type 0
IsSwitch m name b = option_map (λ t. bytes_eq t (codes "on")) (first_value (found_of m) name) ≡ Some b

-- each setting is the value of the option that names it
abbrev pub IsConfig : ArgMatches → Config → Type 0
IsConfig m c =
    IsSwitch m (codes "preservation") c.preservation × IsNumber m (codes "percent") c.percent
    × IsNumber m (codes "interval") c.interval × IsNumber m (codes "evict-ms") c.evict_ms

-- the option of that name is given, and its text is that of an IP address
abbrev pub IsAddress : ArgMatches → Text → IpAddr → Type 0
IsAddress m name address = (t : Text) × (one_text (found_of m) name ≡ Some t) × IsIpText t address

-- the option of that name has a word, and b says whether it is "true"
abbrev pub IsFlag : ArgMatches → Text → Bool → Type 0
IsFlag m name b = option_map (λ t. bytes_eq t (codes "true")) (first_value (found_of m) name) ≡ Some b

-- after how many sessions a server ends: with `--forever` by no number, and else by that of `--sessions`
abbrev pub IsEnd : ArgMatches → Option ℕ → Type 0
IsEnd m None = IsFlag m (codes "forever") true
IsEnd m (Some n) = IsFlag m (codes "forever") false × IsNumber m (codes "sessions") n

-- the port of operators, if `--admin-port` is given
abbrev pub IsAdminPort : ArgMatches → Option ℕ → Type 0
IsAdminPort m None = first_value (found_of m) (codes "admin-port") ≡ None
IsAdminPort m (Some n) = IsNumber m (codes "admin-port") n

-- how the victims of an eviction are drawn, as `--seed` of a server says
abbrev pub IsDrawing : ArgMatches → Drawing → Type 0
IsDrawing m FirstOnes = first_value (found_of m) (codes "seed") ≡ None
IsDrawing m FromSystem = first_value (found_of m) (codes "seed") ≡ Some (codes "system")
IsDrawing m (Seeded n) = IsNumber m (codes "seed") n

-- each part is the value of the option that names it
abbrev pub IsServing : ArgMatches → Serving → Type 0
IsServing m s =
    IsNumber m (codes "port") s.port × IsAddress m (codes "bind") s.bind
    × IsAdminPort m s.admin_port × IsAddress m (codes "admin-bind") s.admin_bind
    × IsEnd m s.sessions × IsNumber m (codes "workers") s.workers
    × IsNumber m (codes "expected") s.expected × IsNumber m (codes "connections") s.connections
    × IsNumber m (codes "idle-ms") s.idle_ms × IsNumber m (codes "request-ms") s.request_ms
    × IsNumber m (codes "warm-up-ms") s.warm_up_ms
    × IsFlag m (codes "until-input-ends") s.until_input_ends × IsFlag m (codes "quiet") s.is_quiet
    × IsSwitch m (codes "accept-peers") s.accepts_peers × IsNumber m (codes "max-body") s.most_body
