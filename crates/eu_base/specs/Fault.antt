-- The numbers by which faults are told
use Rattle.std.specs.Prelude.{ℕ}
use Rattle.eu_base.specs.declared.faults.Fault.{Fault}
use Rattle.eu_base.specs.declared.faults.Fault.TheVariants.{Empty, TooLong, OutOfMemory, BadPercent, BadInterval, Exhausted, Full, Busy, EmptyBatch, CountDiffers, NoFlight, TooManyPasses, PassMissing, Mismatch, NoPeer, NotJson, MissingId, MissingHost, MissingIp, MissingApp, WrongApp, MissingCenter, MissingCenterName, NotWhole, BadStamp, BadDuration, BadBatch, BadHead, HeadTooLong, BodyTooLong, BadLength, BadChunk, BadPath, BadValue, NoRoute, Read, Write, BadEncoding}

abbrev pub fault_number : Fault → ℕ
-- names and memory
fault_number Empty = 1
fault_number TooLong = 2
fault_number OutOfMemory = 3
-- settings
fault_number BadPercent = 4
fault_number BadInterval = 5
-- the registry
fault_number Exhausted = 6
fault_number Full = 7
-- peers
fault_number Busy = 8
fault_number EmptyBatch = 9
fault_number CountDiffers = 10
fault_number NoFlight = 11
-- the shared book
fault_number TooManyPasses = 12
fault_number PassMissing = 13
fault_number Mismatch = 14
fault_number NoPeer = 15
-- instances and batches in JSON
fault_number NotJson = 20
fault_number MissingId = 21
fault_number MissingHost = 22
fault_number MissingIp = 23
fault_number MissingApp = 24
fault_number WrongApp = 25
fault_number MissingCenter = 26
fault_number MissingCenterName = 27
fault_number NotWhole = 28
fault_number BadStamp = 29
fault_number BadDuration = 30
fault_number BadBatch = 31
-- requests
fault_number BadHead = 32
fault_number HeadTooLong = 33
fault_number BodyTooLong = 34
fault_number BadLength = 35
fault_number BadChunk = 36
fault_number BadPath = 37
fault_number BadValue = 38
fault_number NoRoute = 39
-- streams
fault_number Read = 40
fault_number Write = 41
fault_number BadEncoding = 42
