-- Which failures of an accept are passed over
use Rattle.std.specs.Prelude.{ℕ, Bool, true, false, ◌||◌, ◌==◌, ℤ, pos, negsuc, Option, Some, None, if◌then◌else◌}
use Rattle.std.specs.IoError.{error_kind, raw_os_error}
use Rattle.std.specs.declared.io.Error.{Error}
use Rattle.std.specs.declared.io.ErrorKind.{ErrorKind}
use Rattle.std.specs.declared.io.ErrorKind.TheVariants.{WouldBlock, ConnectionAborted, Interrupted, NetworkDown, NetworkUnreachable, HostUnreachable}
use Rattle.eu_accept.specs.declared.door.Accepted.{Accepted}
use Rattle.eu_accept.specs.declared.door.Accepted.TheVariants.{Later, Failed}

-- no connection waits, or one was aborted before it was accepted, or its network failed, or a signal came: the next one is awaited
abbrev pub is_passing : ErrorKind → Bool
is_passing WouldBlock = true
is_passing ConnectionAborted = true
is_passing NetworkDown = true
is_passing NetworkUnreachable = true
is_passing HostUnreachable = true
is_passing Interrupted = true
is_passing _ = false

-- there is no descriptor (24, 23) or no memory (12, 105) now
abbrev pub wants_more : ℕ → Bool
wants_more n = n == 12 || n == 23 || n == 24 || n == 105

-- the connection's network had failed before it was accepted
abbrev pub network_failed : ℕ → Bool
network_failed n = n == 64 || n == 71 || n == 92 || n == 95 || n == 112

-- it is forbidden (1, 13), or it is one of those that some kernels tell
abbrev pub is_of_one : ℕ → Bool
is_of_one n = n == 1 || n == 13 || n == 63 || n == 93 || n == 94 || n == 110

-- the next one may be accepted
abbrev pub may_pass : Option ℤ → Bool
may_pass (Some (pos n)) = wants_more n || network_failed n || is_of_one n
may_pass (Some (negsuc n)) = false
may_pass None = false

-- an accept that failed so is tried again later, or has failed for good
abbrev pub accepted_by : Error → Accepted
accepted_by error = if is_passing (error_kind error) || may_pass (raw_os_error error) then Later else Failed
