-- What is so of a server with its peers
use Rattle.std.specs.Prelude.{◌≡◌, ℕ, Bool, true, false}
use Rattle.eu_model.specs.declared.commands.Command.{Command}
use Rattle.eu_model.specs.declared.commands.Command.TheVariants.{Register, Renew, Cancel, SetStatus, UnsetStatus, Drain, Landed, Lost}
use Rattle.eu_model.specs.declared.commands.Reply.{Reply}
use Rattle.eu_model.specs.Server.{Server, PlainServer, ServerStep, server_fault, plain_server}

-- a peer sent it, or it is an adoption, a timer's command or a change of the settings
abbrev pub tells_no_peer : Command → Bool
tells_no_peer (Register n replicated) = replicated
tells_no_peer (Renew k last_dirty overridden replicated) = replicated
tells_no_peer (Cancel k replicated) = replicated
tells_no_peer (SetStatus k status last_dirty replicated) = replicated
tells_no_peer (UnsetStatus k suggested last_dirty replicated) = replicated
tells_no_peer (Drain peer) = false
tells_no_peer (Landed peer codes) = false
tells_no_peer (Lost peer) = false
tells_no_peer _ = true

-- such a step queues nothing
abbrev pub NothingIsQueued : Type 0
NothingIsQueued =
    (s : Server) (c : Command) (t : ℕ) (reply : Reply) (new : Server) → ServerStep s c t reply new
    → tells_no_peer c ≡ true → new.queues ≡ s.queues

-- what one server may answer and go on to, another of the same plain form may too, with the same plain form after
abbrev pub ServersStepAlike : Type 0
ServersStepAlike =
    (s s' : Server) (c : Command) (t : ℕ) (reply : Reply) (new : Server) → plain_server s ≡ plain_server s' → ServerStep s c t reply new
    → (new' : Server) × ServerStep s' c t reply new' × (plain_server new' ≡ plain_server new)

-- what one refuses, the other does too, for the same fault
abbrev pub ServersFaultAlike : Type 0
ServersFaultAlike = (s s' : Server) (c : Command) (t : ℕ) → plain_server s ≡ plain_server s' → server_fault s c t ≡ server_fault s' c t

-- each plain form is that of some server
abbrev pub EachServerIsHeld : Type 0
EachServerIsHeld = (p : PlainServer) → (s : Server) × (plain_server s ≡ p)
