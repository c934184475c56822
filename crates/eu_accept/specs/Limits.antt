-- The limits of an ordinary server
use Rattle.eu_accept.specs.declared.hub.Limits.{Limits}

-- ten thousand connections; 256 MiB of what they hold while they wait; three heartbeats of 30 s when idle, 10 s for a request and until more of a response is taken, 60 s for a response, 1 s at the end; all is listed from the start
abbrev pub server_limits : Limits
server_limits = record {
  connections = 10000;
  bytes = 268435456;
  patience = record { idle = 90000; request = 10000; progress = 10000; response = 60000; linger = 1000 };
  linger_bytes = 65536;
  warm_up_ms = 0;
}
